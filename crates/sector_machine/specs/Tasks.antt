-- The tasks of a state: what an event of a unit starts from.
use Rattle.std.specs.Prelude.{◌≡◌, ◌↔◌, ◌==◌, Bool, not, ◌&&◌, List, AllPairs, Contains, filter}
use Rattle.std.specs.FinMap as map
use Rattle.std.specs.List.{list_any}
use Rattle.integral_index.specs.declared.Order.{Order}
use Rattle.integral_index.specs.declared.Unit.{Unit}
use Rattle.sparse_row.specs.Row.{Row, coefficient}
use Rattle.sparse_row.specs.ReducedList.{Ascend}
use Rattle.sector_machine.specs.State.{State, rows_at, is_greatest}
use Rattle.sector_machine.specs.Machine.{back_rows, MayForward, MayBack}

-- whether one of the rows shows the greatest integral of the rule, which is its pivot
abbrev pub shows_pivot_of : Order → List Row → Row → Bool
shows_pivot_of order rows rule =
    list_any (λ x. is_greatest order rule x && list_any (λ row. not (coefficient row x == 0)) rows) (map.keys rule.terms)

-- the rows of B whose pivots the unit's forward rows show, in the order in which they stand in B
abbrev pub below_of : Order → State → Unit → List Row
below_of order state unit = filter (shows_pivot_of order (rows_at state.forward unit)) (back_rows state)

-- what may happen for the unit still may, and starts from the same rows
pub record KeepsTask (order : Order) (unit : Unit) (before after : State) : Type 0 where
  pub forward : MayForward order unit before → MayForward order unit after × (rows_at after.waiting unit ≡ rows_at before.waiting unit)
  pub back : MayBack unit before
      → MayBack unit after × (rows_at after.forward unit ≡ rows_at before.forward unit) × (below_of order after unit ≡ below_of order before unit)

-- the back rows of all units, ascending by their greatest integrals
pub record IsTableOf (order : Order) (state : State) (table : List Row) : Type 0 where
  pub ascend : AllPairs (Ascend order) table
  pub members : (row : Row) → Contains table row ↔ Contains (back_rows state) row
