-- What a record tells. The project's own.
use Rattle.std.specs.Prelude.{◌≡◌, ℕ}
use Rattle.integral_index.specs.declared.Order.{Order}
use Rattle.sector_forward.specs.Elimination.{IsElimination}
use Rattle.back_substitute.specs.Substitution.{IsSubstitution}
use Rattle.sector_machine.specs.State.{State, rows_at}
use Rattle.sector_machine.specs.Machine.{Event}
use Rattle.sector_machine.specs.Tasks.{below_of}
use Rattle.sector_machine.specs.Accepted.{IsAcceptedForward, IsAcceptedBack}
use Rattle.reduction_core.specs.Task.{Task, MeetsTask, step_count}
use Rattle.reduction_core.specs.declared.records.Record.{Record}
use Rattle.reduction_core.specs.declared.records.Record.TheVariants.{Forward, Back}

-- the event with the rows of the record, whether or not it may happen
abbrev pub event_of : Record → Event
event_of (Forward unit rows rest) = Event.Forward unit rows rest
event_of (Back unit rows) = Event.Back unit rows

-- the event of the record may happen in the state, and all that can be told of the record's rows without their spans is so
abbrev pub IsAccepted : ℕ → Order → State → Record → Type 0
IsAccepted p order state (Forward unit rows rest) = IsAcceptedForward p order state unit rows rest
IsAccepted p order state (Back unit rows) = IsAcceptedBack p order state unit rows

-- the rows of the record are an elimination of the rows that wait at the unit, or a back substitution of its forward rows by
-- the back rows whose pivots they show
abbrev pub IsComputed : ℕ → Order → State → Record → Type 0
IsComputed p order state (Forward unit rows rest) = IsElimination p order unit (rows_at state.waiting unit) rows rest
IsComputed p order state (Back unit rows) = IsSubstitution p order unit (rows_at state.forward unit) (below_of order state unit) rows

-- a forward record comes by one step
abbrev pub steps_of : Record → ℕ
steps_of (Forward unit rows rest) = 1
steps_of (Back unit rows) = 0

-- the record is accepted in the state, was computed from the rows of its event, and comes by the steps of the task
pub record IsServed (p : ℕ) (order : Order) (state : State) (task : Task) (made : Record) : Type 0 where
  pub accepted : IsAccepted p order state made
  pub computed : IsComputed p order state made
  pub steps : steps_of made ≡ step_count task.work

-- so does each record that meets the task
abbrev pub Serves : ℕ → Order → State → Task → Type 0
Serves p order state task = (made : Record) → MeetsTask task made → IsServed p order state task made
