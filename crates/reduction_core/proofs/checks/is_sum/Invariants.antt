-- The sum of the multiples of the rows so far.
use Rattle.reduction_core.proofs.CheckLemmas.{IsSumSoFar}
use Rattle.reduction_core.proofs.checks.is_sum.Given as goal

abbrev pub invariant-loop-k : goal.invariant-loop-k
invariant-loop-k l = IsSumSoFar l.modulus l.fn.order l.rows l.multipliers l.k l.sum
