-- The rows so far are each below all that follow.
use Rattle.reduction_core.proofs.CheckLemmas.{PairsBefore}
use Rattle.reduction_core.proofs.checks.is_echelon.Given as goal

abbrev pub invariant-loop-k : goal.invariant-loop-k
invariant-loop-k l = PairsBefore l.order l.table l.k
