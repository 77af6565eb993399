-- The back rows of the units so far.
use Rattle.std.proofs.Common.{◌≡◌, take, flat_map}
use Rattle.reduction_core.specs.Slots.{back_of}
use Rattle.reduction_core.proofs.SlotLemmas.{part_rows}
use Rattle.reduction_core.proofs.slots.back_rows.Given as goal

abbrev pub invariant-loop-slot : goal.invariant-loop-slot
invariant-loop-slot l = l.made.items ≡ flat_map (part_rows back_of) (take l.slot-index l.slots)
