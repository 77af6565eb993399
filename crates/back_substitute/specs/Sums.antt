-- Sums of rows. No public call cites this file.
use Rattle.std.specs.Prelude.{◌≡◌, ℕ, ◌+◌, ◌*◌, ◌%◌, ◌-◌, ◌≤◌, List, length, All, sum_by}
use Rattle.integral_index.specs.declared.Order.{Order}
use Rattle.integral_index.specs.Integral.{Integral}
use Rattle.sparse_row.specs.Row.{Row, coefficient, IsRow}

-- the sum of the coefficients that the rows have at x
abbrev pub sum_at : Integral → List Row → ℕ
sum_at x rows = sum_by (λ row. coefficient row x) rows

-- the row is the sum of the rows, modulo p
pub record IsSumOf (p : ℕ) (order : Order) (rows : List Row) (row : Row) : Type 0 where
  pub is_row : IsRow p order row
  pub sum : (x : Integral) → coefficient row x ≡ sum_at x rows % p

-- half as many rows with the same sum
pub record IsPaired (p : ℕ) (order : Order) (rows sums : List Row) : Type 0 where
  pub are_rows : All (IsRow p order) sums
  pub same : (x : Integral) → sum_at x sums % p ≡ sum_at x rows % p
  pub few : 2 * length sums ≤ length rows + 1
  pub enough : length rows ≤ 2 * length sums

-- the sum has the row and the last of the others, where there is one, and those that are left have lost it
pub record IsTaken (p : ℕ) (order : Order) (row : Row) (others rest : List Row) (sum : Row) : Type 0 where
  pub is_row : IsRow p order sum
  pub are_rest : All (IsRow p order) rest
  pub same : (x : Integral) → (coefficient sum x + sum_at x rest) % p ≡ (coefficient row x + sum_at x others) % p
  pub fewer : length rest ≡ length others - 1
