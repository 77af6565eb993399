-- The reduced list of a list of equations: their reduced echelon form.
-- Source: Laporta, hep-ph/0102033; in linear algebra, the reduced row echelon form.
use Rattle.std.specs.Prelude.{◌≡◌, ℕ, List, All, AllPairs, Contains}
use Rattle.std.specs.declared.cmp.Ordering.TheVariants.{Less}
use Rattle.integral_index.specs.declared.Order.{Order}
use Rattle.integral_index.specs.Integral.{Integral}
use Rattle.integral_index.specs.Order.{compare}
use Rattle.sparse_row.specs.Row.{Row, Shows, IsRow, IsGreatest, IsPivot}
use Rattle.sparse_row.specs.Span.{InSpan}

-- the greatest integral of the one row is less than that of the other
abbrev pub Ascend : Order → Row → Row → Type 0
Ascend order row other = (x y : Integral) → IsGreatest order row x → IsGreatest order other y → compare order x y ≡ Less

-- rows with a pivot each, ascending, no pivot of which is shown by another row
pub record IsEchelon (p : ℕ) (order : Order) (table : List Row) : Type 0 where
  pub rows : All (IsRow p order) table
  pub pivots : All (λ row. (x : Integral) × IsPivot order row x) table
  pub ascend : AllPairs (Ascend order) table
  -- since the pivots ascend, the other row whose pivot is x can only be the row itself
  pub apart : (row other : Row) (x : Integral) → Contains table row → Contains table other → IsPivot order row x → Shows other x → IsPivot order other x

-- the table is the reduced list of the equations: an echelon form with the same span
pub record IsReduced (p : ℕ) (order : Order) (equations table : List Row) : Type 0 where
  pub echelon : IsEchelon p order table
  pub spanned : All (InSpan p equations) table
  pub spans : All (InSpan p table) equations
