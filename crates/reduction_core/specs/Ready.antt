-- Which unit's turn it is, and what the steps of finding it promise each other. The turns are the project's own.
use Rattle.std.specs.Prelude.{◌≡◌, ◌≢◌, ℕ, List, slice_index_or, Contains}
use Rattle.std.specs.declared.cmp.Ordering.TheVariants.{Less, Greater}
use Rattle.integral_index.specs.declared.Order.{Order}
use Rattle.integral_index.specs.declared.Unit.{Unit}
use Rattle.integral_index.specs.Order.{unit_compare}
use Rattle.sparse_row.specs.Row.{Row}
use Rattle.sector_machine.specs.State.{State, RowsByUnit, Has, rows_at}
use Rattle.sector_machine.specs.Machine.{MayForward, MayBack}
use Rattle.sector_machine.specs.Tasks.{below_of}
use Rattle.sector_machine.specs.Invariant.{HoldsOfRows}
use Rattle.reduction_core.specs.declared.slots.Slot.{Slot}
use Rattle.reduction_core.specs.Slots.{state_of}
use Rattle.reduction_core.specs.Opening.{ShowUnit}
use Rattle.reduction_core.specs.declared.task.Work.{Work}
use Rattle.reduction_core.specs.declared.task.Work.TheVariants.{Forward, Back}

-- a forward event may happen for no unit outside the busy ones
abbrev pub NoForward : Order → State → List Unit → Type 0
NoForward order state busy = (unit : Unit) → ¬ (Contains busy unit) → ¬ (MayForward order unit state)

-- nor a back event
abbrev pub NoBack : State → List Unit → Type 0
NoBack state busy = (unit : Unit) → ¬ (Contains busy unit) → ¬ (MayBack unit state)

-- the greatest unit outside the busy ones for which a forward event may happen
pub record IsForwardTurn (order : Order) (state : State) (busy : List Unit) (unit : Unit) : Type 0 where
  pub free : ¬ (Contains busy unit)
  pub may : MayForward order unit state
  pub greatest : (other : Unit) → ¬ (Contains busy other) → MayForward order other state → unit_compare other unit ≢ Greater

-- the least unit outside the busy ones for which a back event may happen
pub record IsBackTurn (state : State) (busy : List Unit) (unit : Unit) : Type 0 where
  pub free : ¬ (Contains busy unit)
  pub may : MayBack unit state
  pub least : (other : Unit) → ¬ (Contains busy other) → MayBack other state → unit_compare other unit ≢ Less

-- the work of the unit whose turn it is: a forward event goes first, and starts from the rows that wait; a back event starts
-- from the forward rows, and from the back rows whose pivots these show
abbrev pub IsReady : Order → State → List Unit → Work → Type 0
IsReady order state busy (Forward unit rows) = IsForwardTurn order state busy unit × (rows ≡ rows_at state.waiting unit)
IsReady order state busy (Back unit rows below) =
    NoForward order state busy × IsBackTurn state busy unit × (rows ≡ rows_at state.forward unit) × (below ≡ below_of order state unit)

-- ---- of the steps. No public call cites what follows

-- what holds of the slots of a board
abbrev pub AreHeld : Order → List Slot → Type 0
AreHeld order slots = (p : ℕ) × (equations : List Row) × HoldsOfRows p order equations (state_of slots)

-- no row that waits at the slot shows the unit, unless it is the slot's own
abbrev pub LeavesAlone : Unit → Slot → Type 0
LeavesAlone unit slot = slot.unit ≢ unit → ¬ (ShowUnit slot.waiting unit)

-- the unit is this one, or is in the map
abbrev pub IsDoneAt : RowsByUnit → Unit → Unit → Type 0
IsDoneAt back own unit = unit ≢ own → Has back unit

-- the unit at the place is none of the busy ones, and a forward event may happen for it
abbrev pub GoesForward : Order → List Slot → List Unit → ℕ → Slot → Type 0
GoesForward order slots busy place d = (¬ (Contains busy (slice_index_or slots place d).unit)) × MayForward order (slice_index_or slots place d).unit (state_of slots)

-- the same of a back event
abbrev pub GoesBack : List Slot → List Unit → ℕ → Slot → Type 0
GoesBack slots busy place d = (¬ (Contains busy (slice_index_or slots place d).unit)) × MayBack (slice_index_or slots place d).unit (state_of slots)
