-- Where the pivots of rows stand. No public call cites this file.
use Rattle.std.specs.Prelude.{◌≡◌, ◌≢◌, ℕ, ◌<◌, List, length, All, Contains}
use Rattle.std.specs.List.Sorted.{IsSorted}
use Rattle.std.specs.declared.cmp.Ordering.{Ordering}
use Rattle.integral_index.specs.declared.Order.{Order}
use Rattle.integral_index.specs.Integral.{Integral}
use Rattle.integral_index.specs.Order.{compare}
use Rattle.sparse_row.specs.Row.{Row}
use Rattle.sector_forward.specs.Steps.{IsPivotAt}
use Rattle.back_substitute.specs.declared.pivots.PivotPlace.{PivotPlace}

-- the row has this order
abbrev pub IsOrdered : Order → Row → Type 0
IsOrdered order row = row.order ≡ order

-- entries are compared by their pivots
abbrev pub by_pivot : Order → PivotPlace → PivotPlace → Ordering
by_pivot order entry other = compare order entry.pivot other.pivot

-- the entry is that of a row
abbrev pub IsPlaced : Order → List Row → PivotPlace → Type 0
IsPlaced order rows entry = (entry.place < length rows) × IsPivotAt order rows entry.place entry.pivot

-- the entries are those of the rows
pub record IsListing (order : Order) (rows : List Row) (entries : List PivotPlace) : Type 0 where
  pub each : All (IsPlaced order rows) entries
  pub whole : (k : ℕ) (x : Integral) → k < length rows → IsPivotAt order rows k x → Contains entries (record { pivot = x; place = k })

-- and they ascend
pub record IsIndex (order : Order) (rows : List Row) (entries : List PivotPlace) : Type 0 where
  pub listing : IsListing order rows entries
  pub ascend : IsSorted (by_pivot order) entries

-- no entry is of the integral
abbrev pub HasNone : Integral → List PivotPlace → Type 0
HasNone x entries = All (λ entry. entry.pivot ≢ x) entries
