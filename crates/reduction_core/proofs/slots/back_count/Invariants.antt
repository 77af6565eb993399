-- The units so far that have back rows.
use Rattle.std.proofs.Common.{◌≡◌, is_some, take, count_by}
use Rattle.reduction_core.specs.Slots.{back_of}
use Rattle.reduction_core.proofs.slots.back_count.Given as goal

abbrev pub invariant-loop-slot : goal.invariant-loop-slot
invariant-loop-slot l = l.count ≡ count_by (λ slot. is_some (back_of slot)) (take l.slot-index l.slots)
