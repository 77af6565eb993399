-- The rows so far have pivots of the unit.
use Rattle.std.proofs.Common.{All, take}
use Rattle.sector_forward.specs.Elimination.{IsRuleOf}
use Rattle.reduction_core.proofs.acceptance.have_pivots_in.Given as goal

abbrev pub invariant-loop-row : goal.invariant-loop-row
invariant-loop-row l = All (IsRuleOf l.modulus l.order l.unit) (take l.row-index l.rows)
