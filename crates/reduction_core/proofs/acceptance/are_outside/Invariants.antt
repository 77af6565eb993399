-- The rows so far show something, and nothing of the unit.
use Rattle.std.proofs.Common.{All, take}
use Rattle.sector_forward.specs.Elimination.{IsOutside}
use Rattle.reduction_core.proofs.acceptance.are_outside.Given as goal

abbrev pub invariant-loop-row : goal.invariant-loop-row
invariant-loop-row l = All (IsOutside l.modulus l.order l.unit) (take l.row-index l.rows)
