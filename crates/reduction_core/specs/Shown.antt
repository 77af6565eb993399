-- The integrals that rows show. No public call cites this file.
use Rattle.std.specs.Prelude.{◌↔◌, List, Contains}
use Rattle.std.specs.List.Sorted.{IsSorted}
use Rattle.integral_index.specs.declared.Order.{Order}
use Rattle.integral_index.specs.Integral.{Integral}
use Rattle.integral_index.specs.Order.{compare}
use Rattle.sparse_row.specs.Row.{Row}
use Rattle.sector_forward.specs.Elimination.{IsShownBySome}

-- the integrals ascend, and are those that the rows show
pub record AreShownBy (order : Order) (rows : List Row) (shown : List Integral) : Type 0 where
  pub ascend : IsSorted (compare order) shown
  pub members : (x : Integral) → Contains shown x ↔ IsShownBySome rows x
