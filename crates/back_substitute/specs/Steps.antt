-- What the steps of the back substitution promise each other. No public call cites this file.
use Rattle.std.specs.Prelude.{◌≡◌, ℕ, ◌+◌, ◌%◌, ◌<◌, List, length, map, All}
use Rattle.integral_index.specs.declared.Order.{Order}
use Rattle.integral_index.specs.Integral.{Integral}
use Rattle.sparse_row.specs.declared.Term.{Term}
use Rattle.sparse_row.specs.Row.{Row, coefficient, IsRow}
use Rattle.sparse_row.specs.Span.{combination}
use Rattle.sparse_row.specs.Terms.{coefficient_at}
use Rattle.sector_forward.specs.Differences.{DifferBySpan}
use Rattle.sector_forward.specs.Steps.{IsPivotAt}
use Rattle.back_substitute.specs.Substitution.{ShowsNoPivotOf}
use Rattle.back_substitute.specs.Sums.{sum_at}

-- rows to be added got one more or none: of the pivots of the rows below, the one that the term is of loses the term's
-- coefficient in the sum, and the others stay
pub record IsTermCleared (p : ℕ) (order : Order) (below : List Row) (term : Term) (old new : List Row) : Type 0 where
  pub are_rows : All (IsRow p order) new
  pub some : 0 < length old → 0 < length new
  pub cleared : (k : ℕ) (x : Integral) → k < length below → IsPivotAt order below k x → (sum_at x new + coefficient_at x term) % p ≡ sum_at x old % p
  pub multiplier : ℕ → ℕ
  pub differ : (y : Integral) → sum_at y new % p ≡ (sum_at y old + combination multiplier (map coefficient below) y) % p

-- the row differs by a sum of multiples of the rows below, and shows none of their pivots
pub record IsSubstituted (p : ℕ) (order : Order) (below : List Row) (old new : Row) : Type 0 where
  pub is_row : IsRow p order new
  pub differ : DifferBySpan p below new old
  pub clear : ShowsNoPivotOf order below new
