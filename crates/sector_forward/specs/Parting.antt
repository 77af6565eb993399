-- How reduced rows are parted by unit.
use Rattle.std.specs.Prelude.{◌≡◌, ◌≢◌, ℕ, ◌+◌, ◌⊎◌, List, length, All, AllPairs, Contains}
use Rattle.integral_index.specs.declared.Order.{Order}
use Rattle.integral_index.specs.declared.Unit.{Unit}
use Rattle.integral_index.specs.Integral.{Integral}
use Rattle.integral_index.specs.Order.{unit_of}
use Rattle.sparse_row.specs.Row.{Row, IsPivot}
use Rattle.sparse_row.specs.ReducedList.{Ascend, IsReduced}

abbrev pub HasPivotIn : Order → Unit → Row → Type 0
HasPivotIn order unit row = (x : Integral) × IsPivot order row x × (unit_of x ≡ unit)

abbrev pub HasPivotOutside : Order → Unit → Row → Type 0
HasPivotOutside order unit row = (x : Integral) × IsPivot order row x × (unit_of x ≢ unit)

-- the rows with their pivots in the unit, and those with their pivots outside it, of a list
pub record IsParted (order : Order) (unit : Unit) (all own rest : List Row) : Type 0 where
  pub have_own : All (HasPivotIn order unit) own
  pub have_other : All (HasPivotOutside order unit) rest
  pub ascend : AllPairs (Ascend order) own
  pub of_own : (row : Row) → Contains own row → Contains all row
  pub of_rest : (row : Row) → Contains rest row → Contains all row
  pub whole : (row : Row) → Contains all row → Contains own row ⊎ Contains rest row
  pub count : length own + length rest ≡ length all

-- All rows together are the reduced list of those that the unit took, so that they are determined: the rows
-- in their order, and the rest as a set.
pub record ArePartsOfReduced (p : ℕ) (order : Order) (unit : Unit) (taken rows rest : List Row) : Type 0 where
  pub all : List Row
  pub reduced : IsReduced p order taken all
  pub parted : IsParted order unit all rows rest
