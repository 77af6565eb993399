-- What holds of each state that a run reaches from the opening of given equations.
use Rattle.std.specs.Prelude.{◌≢◌, ◌++◌, ℕ, List, [], All, Contains, Some}
use Rattle.std.specs.FinMap as map
use Rattle.integral_index.specs.declared.Order.{Order}
use Rattle.integral_index.specs.declared.Unit.{Unit}
use Rattle.integral_index.specs.Integral.{Integral}
use Rattle.integral_index.specs.Order.{unit_of}
use Rattle.sparse_row.specs.Row.{Row, Shows, IsRow}
use Rattle.sparse_row.specs.Span.{InSpan, SameSpan}
use Rattle.sector_forward.specs.Elimination.{IsTaken, AreApart}
use Rattle.back_substitute.specs.Substitution.{AreRules}
use Rattle.sector_machine.specs.State.{State, RowsByUnit, Has, HasNone, rows_at, IsAmong, rows_of}
use Rattle.sector_machine.specs.Machine.{AreUnitsOf, HaveThePivots, back_rows}

-- all integrals that rows of the map show are of these units
abbrev pub ShowOnlyUnits : List Unit → RowsByUnit → Type 0
ShowOnlyUnits units by_unit = (row : Row) (x : Integral) → IsAmong by_unit row → Shows row x → Contains units (unit_of x)

-- the units are those of the equations, and all that is shown is of one of them
pub record HoldsOfUnits (equations : List Row) (state : State) : Type 0 where
  pub units : AreUnitsOf equations state.units
  pub eliminated : (unit : Unit) → Has state.forward unit → Contains state.units unit
  pub waiting : ShowOnlyUnits state.units state.waiting
  pub forward : ShowOnlyUnits state.units state.forward

-- the waiting rows: each waits at the unit of its greatest integral, and none shows an integral of a unit with forward rows
pub record HoldsOfWaiting (p : ℕ) (order : Order) (state : State) : Type 0 where
  pub grouped : (unit : Unit) → All (IsTaken p order unit) (rows_at state.waiting unit)
  pub none_empty : (unit : Unit) → map.get state.waiting unit ≢ Some []
  pub not_eliminated : (row : Row) (x : Integral) → IsAmong state.waiting row → Shows row x → HasNone state.forward (unit_of x)

-- the back rows: they have the pivots of the forward rows, and show only integrals of units that have back rows, and no
-- pivot of another back row
pub record HoldsOfBack (p : ℕ) (order : Order) (state : State) : Type 0 where
  pub rules : (unit : Unit) → AreRules p order unit (rows_at state.back unit)
  pub eliminated : (unit : Unit) → Has state.back unit → Has state.forward unit
  pub pivots : (unit : Unit) → Has state.back unit → HaveThePivots order (rows_at state.forward unit) (rows_at state.back unit)
  pub closed : (row : Row) (x : Integral) → IsAmong state.back row → Shows row x → Has state.back (unit_of x)
  pub apart : AreApart order (back_rows state)

-- what holds of the rows of a state, apart from what they span. Rows that are accepted keep it, also where they meet no event
pub record HoldsOfRows (p : ℕ) (order : Order) (equations : List Row) (state : State) : Type 0 where
  pub are_rows : All (IsRow p order) equations
  pub units : HoldsOfUnits equations state
  pub waiting : HoldsOfWaiting p order state
  pub forward : (unit : Unit) → AreRules p order unit (rows_at state.forward unit)
  pub back : HoldsOfBack p order state

-- the spans: the waiting rows and the forward rows span what the equations do; the back rows are spanned by the forward rows,
-- and span those of the units that have back rows
pub record HoldsOfSpans (p : ℕ) (equations : List Row) (state : State) : Type 0 where
  pub whole : SameSpan p equations (rows_of state.units state.waiting ++ rows_of state.units state.forward)
  pub spanned : All (InSpan p (rows_of state.units state.forward)) (back_rows state)
  pub spans : (unit : Unit) → Has state.back unit → All (InSpan p (back_rows state)) (rows_at state.forward unit)

-- what holds of each state that a run reaches: every event keeps it
pub record Holds (p : ℕ) (order : Order) (equations : List Row) (state : State) : Type 0 where
  pub rows : HoldsOfRows p order equations state
  pub spans : HoldsOfSpans p equations state
