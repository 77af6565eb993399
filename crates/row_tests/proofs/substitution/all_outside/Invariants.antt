-- The rows so far have pivots, and show nothing of the unit.
use Rattle.std.proofs.Common.{All, take}
use Rattle.integral_index.specs.declared.Order.TheVariants.{Standard}
use Rattle.back_substitute.specs.Substitution.{IsRuleOutside}
use Rattle.row_tests.proofs.substitution.all_outside.Given as goal

abbrev pub invariant-loop-row : goal.invariant-loop-row
invariant-loop-row l = All (IsRuleOutside l.modulus Standard l.unit) (take l.row-index l.rows)
