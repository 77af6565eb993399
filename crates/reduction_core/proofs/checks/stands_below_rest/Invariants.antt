-- The rows so far stand above the row.
use Rattle.reduction_core.proofs.CheckLemmas.{StandsUpTo}
use Rattle.reduction_core.proofs.checks.stands_below_rest.Given as goal

abbrev pub invariant-loop-k : goal.invariant-loop-k
invariant-loop-k l = StandsUpTo l.order l.table l.place l.k
