-- Laws on reduced lists and normal forms, each the contract of a function of `laws`.
use Rattle.std.specs.Prelude.{◌≡◌, ◌↔◌, ℕ, ◌<◌, false, List, All, AllPairs, Contains}
use Rattle.std.specs.declared.cmp.Ordering.TheVariants.{Less}
use Rattle.integral_index.specs.declared.Order.{Order}
use Rattle.integral_index.specs.Integral.{Integral, sector_of}
use Rattle.integral_index.specs.Order.{compare}
use Rattle.integral_index.specs.ZeroSectors.{is_zero_sector}
use Rattle.sparse_row.specs.Row.{Row, Shows, IsRow, IsPivot}
use Rattle.sparse_row.specs.Span.{SameSpan}
use Rattle.sparse_row.specs.ReducedList.{IsEchelon, IsReduced}
use Rattle.sector_forward.specs.Differences.{DifferBySpan}
use Rattle.reduction_core.specs.NormalForm.{unit_row, normal_form, IsMaster, masters}

-- there is only one reduced list of given equations
abbrev pub OneReducedList : Type 0
OneReducedList =
    (p : ℕ) (order : Order) (equations table other : List Row)
    → IsReduced p order equations table → IsReduced p order equations other → table ≡ other

-- lists with the same span have the same reduced list
abbrev pub SpanDeterminesReducedList : Type 0
SpanDeterminesReducedList =
    (p : ℕ) (order : Order) (equations others table other : List Row) → SameSpan p equations others
    → IsReduced p order equations table → IsReduced p order others other → table ≡ other

-- no integral of a zero sector is shown
abbrev pub ShowsNoZero : (ℕ → List ℕ) → Row → Type 0
ShowsNoZero zeros row = (y : Integral) → Shows row y → is_zero_sector (zeros y.family) (sector_of y.indices) ≡ false

-- no pivot of the table is shown
abbrev pub ShowsNoPivot : Order → List Row → Row → Type 0
ShowsNoPivot order table row = (rule : Row) (y : Integral) → Contains table rule → IsPivot order rule y → ¬ (Shows row y)

-- a normal form is a row of residues
abbrev pub NormalFormIsRow : Type 0
NormalFormIsRow =
    (p : ℕ) (order : Order) (zeros : List ℕ) (table : List Row) (x : Integral) → 1 < p
    → All (IsRow p order) table → IsRow p order (normal_form p order zeros table x)

-- a normal form shows no pivot, so no master is one
abbrev pub NormalFormShowsNoPivot : Type 0
NormalFormShowsNoPivot =
    (p : ℕ) (order : Order) (zeros : List ℕ) (table : List Row) (x : Integral)
    → IsEchelon p order table → ShowsNoPivot order table (normal_form p order zeros table x)

-- each integral that a normal form shows is its own normal form
abbrev pub MastersStay : Type 0
MastersStay =
    (p : ℕ) (order : Order) (zeros : ℕ → List ℕ) (table : List Row) (x y : Integral) → IsEchelon p order table
    → All (ShowsNoZero zeros) table → Shows (normal_form p order (zeros x.family) table x) y
    → normal_form p order (zeros y.family) table y ≡ unit_row order y

-- an integral equals its normal form where the rows of the table are 0
abbrev pub NormalFormIsEqual : Type 0
NormalFormIsEqual =
    (p : ℕ) (order : Order) (zeros : List ℕ) (table : List Row) (x : Integral) → IsEchelon p order table
    → is_zero_sector zeros (sector_of x.indices) ≡ false → DifferBySpan p table (unit_row order x) (normal_form p order zeros table x)

-- and it is the only such row that shows no pivot
abbrev pub NormalFormIsOnly : Type 0
NormalFormIsOnly =
    (p : ℕ) (order : Order) (zeros : List ℕ) (table : List Row) (x : Integral) (row : Row) → 1 < p
    → IsEchelon p order table → is_zero_sector zeros (sector_of x.indices) ≡ false → IsRow p order row
    → ShowsNoPivot order table row → DifferBySpan p table (unit_row order x) row
    → row ≡ normal_form p order zeros table x

-- the list of the masters has just the masters
abbrev pub MastersAreListed : Type 0
MastersAreListed =
    (p : ℕ) (order : Order) (zeros : ℕ → List ℕ) (table : List Row) (selection : List Integral) (y : Integral) → 1 < p
    → All (IsRow p order) table → Contains (masters p order zeros table selection) y ↔ IsMaster p order zeros table selection y

-- and it ascends strictly
abbrev pub MastersAscend : Type 0
MastersAscend =
    (p : ℕ) (order : Order) (zeros : ℕ → List ℕ) (table : List Row) (selection : List Integral)
    → AllPairs (λ x y. compare order x y ≡ Less) (masters p order zeros table selection)
