-- A run of the board on one thread.
use Rattle.std.specs.Prelude.{◌≡◌, ◌⊎◌, ◌+◌, ℕ, List}
use Rattle.sector_machine.specs.Machine.{Event, Leads, LeadOn}
use Rattle.sector_forward.specs.declared.fault.ForwardFault.{ForwardFault}
use Rattle.sector_forward.specs.declared.fault.ForwardFault.TheVariants as fault
use Rattle.reduction_core.specs.Board.{Board}
use Rattle.reduction_core.specs.Records.{event_of, steps_of}
use Rattle.reduction_core.specs.declared.records.Record.{Record}

-- some events lead from the one board to the other
pub record HasRun (before after : Board) : Type 0 where
  pub events : List Event
  pub lead : LeadOn before.modulus before.order before.state events after.state
  pub modulus : after.modulus ≡ before.modulus
  pub order : after.order ≡ before.order

-- the board stands after some events, unless memory was refused
abbrev pub HasRunOrWantsMemory : Board → Board → ForwardFault → Type 0
HasRunOrWantsMemory before after f = (f ≡ fault.OutOfMemory) ⊎ HasRun before after

-- the event of a record leads from the one board to the other, and its steps were taken
pub record IsNext (before : Board) (steps : ℕ) (after : Board) (steps_after : ℕ) : Type 0 where
  pub entry : Record
  pub leads : Leads before.modulus before.order (event_of entry) before.state after.state
  pub taken : steps_after ≡ steps + steps_of entry
  pub modulus : after.modulus ≡ before.modulus
  pub order : after.order ≡ before.order
