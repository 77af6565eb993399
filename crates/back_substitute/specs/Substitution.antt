-- The back substitution of one unit. Source: Laporta, hep-ph/0102033, and Kira, arXiv:1705.05610, which insert
-- the relations of lesser sectors into those of a greater one; the conditions on the lists are the project's own.
use Rattle.std.specs.Prelude.{◌≡◌, ◌≢◌, ℕ, ◌<◌, List, ◌++◌, length, slice_index_or, All, Contains}
use Rattle.integral_index.specs.declared.Order.{Order}
use Rattle.integral_index.specs.declared.Unit.{Unit}
use Rattle.integral_index.specs.Integral.{Integral}
use Rattle.integral_index.specs.Order.{unit_of}
use Rattle.sparse_row.specs.Row.{Row, coefficient, Shows, IsRow, IsPivot}
use Rattle.sparse_row.specs.Span.{SameSpan}
use Rattle.sector_forward.specs.Elimination.{IsRuleOf, AreApart}

-- rows with a pivot in the unit each, which no other of them shows
pub record AreRules (p : ℕ) (order : Order) (unit : Unit) (rows : List Row) : Type 0 where
  pub each : All (IsRuleOf p order unit) rows
  pub apart : AreApart order rows

-- a row with a pivot that shows nothing of the unit, so that its pivot is of another unit
pub record IsRuleOutside (p : ℕ) (order : Order) (unit : Unit) (row : Row) : Type 0 where
  pub is_row : IsRow p order row
  pub pivot : (x : Integral) × IsPivot order row x
  pub none : (x : Integral) → Shows row x → unit_of x ≢ unit

-- rows that show nothing of the unit, with a pivot each, which no other of them shows
pub record AreBelow (p : ℕ) (order : Order) (unit : Unit) (rows : List Row) : Type 0 where
  pub each : All (IsRuleOutside p order unit) rows
  pub apart : AreApart order rows

-- the row at each place has the pivot of the other list's row there
pub record HavePivotsOf (order : Order) (input rows : List Row) : Type 0 where
  pub len : length rows ≡ length input
  pub kept : (k : ℕ) (d : Row) (x : Integral) → k < length input → IsPivot order (slice_index_or input k d) x → IsPivot order (slice_index_or rows k d) x

-- the row shows the pivot of none of the rows
abbrev pub ShowsNoPivotOf : Order → List Row → Row → Type 0
ShowsNoPivotOf order rows row = (rule : Row) (x : Integral) → Contains rows rule → IsPivot order rule x → coefficient row x ≡ 0

-- out of the rows of the unit the pivots of the rows below are cleared: the pivots stay, and so does what the
-- rows span together with the rows below
pub record IsSubstitution (p : ℕ) (order : Order) (unit : Unit) (input below rows : List Row) : Type 0 where
  pub given : AreRules p order unit input
  pub outside : AreBelow p order unit below
  pub rules : AreRules p order unit rows
  pub pivots : HavePivotsOf order input rows
  pub clear : All (ShowsNoPivotOf order below) rows
  pub span : SameSpan p (input ++ below) (rows ++ below)
