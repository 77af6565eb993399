-- No row so far shows the pivot, but for the row at the place.
use Rattle.std.proofs.Common.{◌≢◌, ℕ, ◌<◌, get_or}
use Rattle.sparse_row.specs.Row.{Row}
use Rattle.reduction_core.specs.Acceptance.{IsClearOf}
use Rattle.reduction_core.proofs.acceptance.is_apart_at.Given as goal

abbrev pub invariant-loop-k : goal.invariant-loop-k
invariant-loop-k l = (k : ℕ) (d : Row) → k < l.k → l.place ≢ k → IsClearOf l.order (get_or l.rows l.place d) (get_or l.rows k d)
