-- Rows that differ by what a list of rows spans.
use Rattle.std.specs.Prelude.{◌≡◌, ℕ, ◌+◌, ◌%◌, List, map}
use Rattle.integral_index.specs.Integral.{Integral}
use Rattle.sparse_row.specs.Row.{Row, coefficient}
use Rattle.sparse_row.specs.Span.{combination}

-- the two rows differ by a sum of multiples of the table's rows, modulo p: where each of those is 0, the two are equal
pub record DifferBySpan (p : ℕ) (table : List Row) (row other : Row) : Type 0 where
  pub multiplier : ℕ → ℕ
  pub is : (y : Integral) → coefficient row y % p ≡ (coefficient other y + combination multiplier (map coefficient table) y) % p
