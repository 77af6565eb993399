-- No pivot of a row so far is shown by another.
use Rattle.std.proofs.Common.{◌≡◌, ◌≢◌, ℕ, ◌<◌, length, get_or}
use Rattle.integral_index.specs.declared.Order.TheVariants.{Standard}
use Rattle.integral_index.specs.Integral.{Integral}
use Rattle.sparse_row.specs.Row.{Row, coefficient, IsPivot}
use Rattle.row_tests.proofs.substitution.are_apart.Given as goal

abbrev pub invariant-loop-i : goal.invariant-loop-i
invariant-loop-i l =
    (k j : ℕ) (d : Row) (x : Integral) → k < l.i → j < length l.rows → k ≢ j → IsPivot Standard (get_or l.rows k d) x → coefficient (get_or l.rows j d) x ≡ 0
