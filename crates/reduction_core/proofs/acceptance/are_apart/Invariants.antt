-- The pivots of the rows so far are shown by no other row.
use Rattle.std.proofs.Common.{ℕ, ◌<◌}
use Rattle.reduction_core.specs.Acceptance.{IsApartAt}
use Rattle.reduction_core.proofs.acceptance.are_apart.Given as goal

abbrev pub invariant-loop-k : goal.invariant-loop-k
invariant-loop-k l = (k : ℕ) → k < l.k → IsApartAt l.order l.rows k
