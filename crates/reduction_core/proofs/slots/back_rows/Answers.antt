-- The rows of all units, slot by slot.
use Rattle.std.proofs.Common.{flat_map, sym, ap, ◌∙◌, arith}
use Rattle.std.proofs.lemmas.List.{take_all}
use Rattle.reduction_core.specs.Slots.{back_of}
use Rattle.reduction_core.proofs.SlotLemmas.{part_rows, rows_of_slots}
use Rattle.reduction_core.proofs.slots.back_rows.Goals as goal

pub returns : goal.returns
returns c =
    let slots = c.args.slots.now in
    c.loop-slot.invariant ∙ ap (flat_map (part_rows back_of)) (take_all c.loop-slot.slot-index slots (omega (arith, c.loop-slot-test.false))) ∙ sym (rows_of_slots back_of slots c.requires)
