-- The units are counted slot by slot.
use Rattle.std.proofs.Common.{is_some, count_by, sym, ap, ◌∙◌, arith}
use Rattle.std.proofs.lemmas.List.{take_all}
use Rattle.reduction_core.specs.Slots.{forward_of}
use Rattle.reduction_core.proofs.SlotLemmas.{count_of_slots}
use Rattle.reduction_core.proofs.slots.forward_count.Goals as goal

pub returns : goal.returns
returns c =
    let slots = c.args.slots.now in
    c.loop-slot.invariant ∙ ap (count_by (λ slot. is_some (forward_of slot))) (take_all c.loop-slot.slot-index slots (omega (arith, c.loop-slot-test.false))) ∙ sym (count_of_slots forward_of slots c.requires)
