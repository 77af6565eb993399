-- What the steps of putting rows in ascending order promise each other. No public call cites this file.
use Rattle.std.specs.Prelude.{◌↔◌, List, AllPairs, Contains}
use Rattle.integral_index.specs.declared.Order.{Order}
use Rattle.integral_index.specs.Integral.{Integral}
use Rattle.sparse_row.specs.Row.{Row, IsPivot}
use Rattle.sparse_row.specs.ReducedList.{Ascend}

-- none of the rows has a pivot of the row
abbrev pub HaveNoPivotOf : Order → Row → List Row → Type 0
HaveNoPivotOf order row rows = (other : Row) (x : Integral) → Contains rows other → IsPivot order row x → ¬ (IsPivot order other x)

-- the list has just the members of the rows
abbrev pub HasMembers : List Row → List Row → Type 0
HasMembers rows table = (row : Row) → Contains table row ↔ Contains rows row

-- the list has just the members of the rows, and ascends
pub record IsAscending (order : Order) (rows table : List Row) : Type 0 where
  pub ascend : AllPairs (Ascend order) table
  pub members : HasMembers rows table
