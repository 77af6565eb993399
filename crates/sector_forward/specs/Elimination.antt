-- The forward elimination of one unit. Source: Laporta, hep-ph/0102033, and Kira, arXiv:1705.05610, which
-- eliminate sector by sector; what is left to lesser units is the project's own form of it.
use Rattle.std.specs.Prelude.{◌≡◌, ◌≢◌, ℕ, ◌+◌, ◌<◌, ◌≤◌, List, [], ◌∷◌, ◌++◌, length, slice_index_or, All, Contains}
use Rattle.integral_index.specs.declared.Order.{Order}
use Rattle.integral_index.specs.declared.Order.TheVariants.{Standard}
use Rattle.integral_index.specs.declared.Unit.{Unit}
use Rattle.integral_index.specs.Integral.{Integral}
use Rattle.integral_index.specs.Order.{unit_of}
use Rattle.sparse_row.specs.Row.{Row, coefficient, Shows, IsRow, IsEmpty, IsGreatest, IsPivot}
use Rattle.sparse_row.specs.Span.{SameSpan}

-- a row that the unit takes: its greatest integral is of the unit, so it isn't empty
pub record IsTaken (p : ℕ) (order : Order) (unit : Unit) (row : Row) : Type 0 where
  pub is_row : IsRow p order row
  pub greatest : (x : Integral) × IsGreatest order row x × (unit_of x ≡ unit)

-- a row with its pivot in the unit
pub record IsRuleOf (p : ℕ) (order : Order) (unit : Unit) (row : Row) : Type 0 where
  pub is_row : IsRow p order row
  pub pivot : (x : Integral) × IsPivot order row x × (unit_of x ≡ unit)

-- a row that shows something, and nothing of the unit
pub record IsOutside (p : ℕ) (order : Order) (unit : Unit) (row : Row) : Type 0 where
  pub is_row : IsRow p order row
  pub some : ¬ (IsEmpty row)
  pub none : (x : Integral) → Shows row x → unit_of x ≢ unit

-- no pivot of one of the rows is shown by another, so no two have the same
abbrev pub AreApart : Order → List Row → Type 0
AreApart order rows =
    (i j : ℕ) (d : Row) (x : Integral) → i < length rows → j < length rows → i ≢ j
    → IsPivot order (slice_index_or rows i d) x → coefficient (slice_index_or rows j d) x ≡ 0

-- the rows and the rest come from the rows that the unit took
pub record IsElimination (p : ℕ) (order : Order) (unit : Unit) (taken rows rest : List Row) : Type 0 where
  pub are_taken : All (IsTaken p order unit) taken
  pub are_rules : All (IsRuleOf p order unit) rows
  pub apart : AreApart order rows
  pub are_outside : All (IsOutside p order unit) rest
  pub span : SameSpan p taken (rows ++ rest)
  pub few : length rows + length rest ≤ length taken

-- the order that all the rows have; of none, any serves
abbrev pub order_of : List Row → Order
order_of [] = Standard
order_of (row ∷ rest) = row.order

-- one of the rows shows the integral
abbrev pub IsShownBySome : List Row → Integral → Type 0
IsShownBySome rows x = (row : Row) × Contains rows row × Shows row x
