-- The slots of the units so far.
use Rattle.std.proofs.Common.{take}
use Rattle.std.specs.List.{AllZip}
use Rattle.reduction_core.specs.Opening.{IsEmptySlot}
use Rattle.reduction_core.proofs.opening.empty_slots.Given as goal

abbrev pub invariant-loop-unit : goal.invariant-loop-unit
invariant-loop-unit l = AllZip IsEmptySlot (take l.unit-index l.units) l.slots.items
