-- The rows so far have pivots of the unit.
use Rattle.std.proofs.Common.{All, take}
use Rattle.integral_index.specs.declared.Order.TheVariants.{Standard}
use Rattle.sector_forward.specs.Elimination.{IsRuleOf}
use Rattle.row_tests.proofs.substitution.have_pivots_in.Given as goal

abbrev pub invariant-loop-row : goal.invariant-loop-row
invariant-loop-row l = All (IsRuleOf l.modulus Standard l.unit) (take l.row-index l.rows)
