-- What the steps of the test whether a record is accepted promise each other. No public call cites this file.
use Rattle.std.specs.Prelude.{ℕ, unwrap_or, List, [], ◌++◌, All}
use Rattle.integral_index.specs.declared.Order.{Order}
use Rattle.integral_index.specs.declared.Unit.{Unit}
use Rattle.sparse_row.specs.Row.{Row}
use Rattle.back_substitute.specs.Substitution.{ShowsNoPivotOf}
use Rattle.sector_machine.specs.State.{State}
use Rattle.sector_machine.specs.Machine.{back_rows}
use Rattle.sector_machine.specs.Accepted.{ShowNothingNew}
use Rattle.reduction_core.specs.declared.slots.Slot.{Slot}
use Rattle.reduction_core.specs.Slots.{back_of}
use Rattle.reduction_core.specs.Acceptance.{FitBack}

-- the back rows of the slot
abbrev pub back_part : Slot → List Row
back_part slot = unwrap_or (back_of slot) []

-- the rows show no pivot of the slot's back rows
abbrev pub IsClearAt : Order → List Row → Slot → Type 0
IsClearAt order rows slot = All (ShowsNoPivotOf order (back_part slot)) rows

-- rows that may be the back rows of a unit with these forward rows, beside the back rows of the others
pub record FitsBoard (p : ℕ) (order : Order) (state : State) (unit : Unit) (forward rows : List Row) : Type 0 where
  pub fit : FitBack p order unit forward rows
  pub clear : All (ShowsNoPivotOf order (back_rows state)) rows
  pub nothing_new : ShowNothingNew (forward ++ back_rows state) rows
