-- The units so far that have forward rows.
use Rattle.std.proofs.Common.{◌≡◌, is_some, take, count_by}
use Rattle.reduction_core.specs.Slots.{forward_of}
use Rattle.reduction_core.proofs.slots.forward_count.Given as goal

abbrev pub invariant-loop-slot : goal.invariant-loop-slot
invariant-loop-slot l = l.count ≡ count_by (λ slot. is_some (forward_of slot)) (take l.slot-index l.slots)
