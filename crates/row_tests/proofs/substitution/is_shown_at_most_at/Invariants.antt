-- No row so far shows the integral, but for the one at the place.
use Rattle.std.proofs.Common.{◌≡◌, ◌≢◌, ℕ, ◌<◌, get_or}
use Rattle.sparse_row.specs.Row.{Row, coefficient}
use Rattle.row_tests.proofs.substitution.is_shown_at_most_at.Given as goal

abbrev pub invariant-loop-j : goal.invariant-loop-j
invariant-loop-j l = (k : ℕ) (d : Row) → k < l.j → l.place ≢ k → coefficient (get_or l.rows k d) l.x ≡ 0
