-- The rows so far show no pivot of a rule.
use Rattle.std.proofs.Common.{All, take}
use Rattle.back_substitute.specs.Substitution.{ShowsNoPivotOf}
use Rattle.reduction_core.proofs.acceptance.show_no_pivot_of.Given as goal

abbrev pub invariant-loop-row : goal.invariant-loop-row
invariant-loop-row l = All (ShowsNoPivotOf l.order l.rules) (take l.row-index l.rows)
