-- What the steps of the elimination promise each other. Of these, public calls cite stairs and places of pivots alone.
use Rattle.std.specs.Prelude.{◌≡◌, ℕ, ◌+◌, ◌*◌, ◌%◌, ◌<◌, ◌≤◌, List, length, slice_index_or, All, AllPairs}
use Rattle.std.specs.declared.cmp.Ordering.TheVariants.{Less, Greater}
use Rattle.integral_index.specs.declared.Order.{Order}
use Rattle.integral_index.specs.Integral.{Integral}
use Rattle.integral_index.specs.Order.{compare}
use Rattle.sparse_row.specs.Row.{Row, coefficient, IsRow, IsPivot}
use Rattle.sparse_row.specs.Span.{SameSpan}
use Rattle.sparse_row.specs.ReducedList.{Ascend, IsEchelon}

abbrev pub HasPivot : Order → Row → Type 0
HasPivot order row = (x : Integral) × IsPivot order row x

-- rows with ascending pivots: a table before back substitution
pub record IsStairs (p : ℕ) (order : Order) (table : List Row) : Type 0 where
  pub rows : All (IsRow p order) table
  pub pivots : All (HasPivot order) table
  pub ascend : AllPairs (Ascend order) table

-- x is the pivot of the row at this place
abbrev pub IsPivotAt : Order → List Row → ℕ → Integral → Type 0
IsPivotAt order table k x = (d : Row) → IsPivot order (slice_index_or table k d) x

-- the pivots before this place are less than x, and those from it on are greater
pub record IsPlaceFor (order : Order) (table : List Row) (x : Integral) (place : ℕ) : Type 0 where
  pub within : place ≤ length table
  pub less : (k : ℕ) (y : Integral) → k < place → IsPivotAt order table k y → compare order y x ≡ Less
  pub greater : (k : ℕ) (y : Integral) → place ≤ k → k < length table → IsPivotAt order table k y → compare order y x ≡ Greater

-- the row shows none of the pivots from the one place to before the other
abbrev pub ShowsNoneWithin : Order → List Row → ℕ → ℕ → Row → Type 0
ShowsNoneWithin order table low high row = (k : ℕ) (y : Integral) → low ≤ k → k < high → IsPivotAt order table k y → coefficient row y ≡ 0

-- the row became the sum with a multiple of the rule, in which the rule's pivot is not shown
pub record IsCleared (p : ℕ) (order : Order) (rule old new : Row) : Type 0 where
  pub factor : ℕ
  pub is : (y : Integral) → coefficient new y ≡ (coefficient old y + factor * coefficient rule y) % p
  pub gone : (x : Integral) → IsPivot order rule x → coefficient new x ≡ 0

-- x is greater than each pivot of the table
abbrev pub IsAboveAll : Order → List Row → Integral → Type 0
IsAboveAll order table x = (k : ℕ) (y : Integral) → k < length table → IsPivotAt order table k y → compare order y x ≡ Less

-- both rows have the same coefficients above all pivots of the table
abbrev pub SameAbove : Order → List Row → Row → Row → Type 0
SameAbove order table old new = (x : Integral) → IsAboveAll order table x → coefficient new x ≡ coefficient old x

-- the table has ascending pivots and the span of the equations, and is no longer than they are
pub record IsForward (p : ℕ) (order : Order) (equations table : List Row) : Type 0 where
  pub stairs : IsStairs p order table
  pub span : SameSpan p equations table
  pub few : length table ≤ length equations

-- the table is an echelon form with the span of the rows, and has their pivots one by one
pub record IsBack (p : ℕ) (order : Order) (rows table : List Row) : Type 0 where
  pub echelon : IsEchelon p order table
  pub span : SameSpan p rows table
  pub len : length table ≡ length rows
  pub pivots : (k : ℕ) (x : Integral) → k < length rows → IsPivotAt order rows k x → IsPivotAt order table k x
