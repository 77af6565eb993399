-- The units of the rows so far.
use Rattle.std.proofs.Common.{take}
use Rattle.sector_machine.specs.Machine.{AreUnitsOf}
use Rattle.reduction_core.proofs.listed.units_of.Given as goal

abbrev pub invariant-loop-row : goal.invariant-loop-row
invariant-loop-row l = AreUnitsOf (take l.row-index l.rows) l.units.items
