-- The laws of rows and of their lists of terms.
use Rattle.std.specs.Prelude.{◌≡◌, ℕ, List}
use Rattle.integral_index.specs.declared.Order.{Order}
use Rattle.integral_index.specs.Integral.{Integral}
use Rattle.sparse_row.specs.declared.Term.{Term}
use Rattle.sparse_row.specs.Row.{Row, coefficient, IsRow, IsGreatest}
use Rattle.sparse_row.specs.Terms.{IsTermList, total_at, row_of}

-- two rows of one order with the same coefficients are equal
abbrev pub CoefficientsDetermineRow : Type 0
CoefficientsDetermineRow =
    (p : ℕ) (order : Order) (row other : Row) → IsRow p order row → IsRow p order other → ((x : Integral) → coefficient row x ≡ coefficient other x) → row ≡ other

-- a row has at most one greatest integral
abbrev pub GreatestIsUnique : Type 0
GreatestIsUnique = (order : Order) (row : Row) (x y : Integral) → IsGreatest order row x → IsGreatest order row y → x ≡ y

-- two lists of terms that descend and have the same totals are equal
abbrev pub TotalsDetermineTerms : Type 0
TotalsDetermineTerms =
    (order : Order) (terms others : List Term) → IsTermList order terms → IsTermList order others → ((x : Integral) → total_at x terms ≡ total_at x others) → terms ≡ others

-- the row of a list of terms has their totals as coefficients
abbrev pub RowHasTotals : Type 0
RowHasTotals = (order : Order) (terms : List Term) → IsTermList order terms → (x : Integral) → coefficient (row_of order terms) x ≡ total_at x terms
