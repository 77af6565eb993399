-- What the steps of an event on the slots promise each other. No public call cites this file.
use Rattle.std.specs.Prelude.{◌≡◌, ◌≢◌, ℕ, ◌<◌, Some, List, [], length, slice_index_or, All}
use Rattle.integral_index.specs.declared.Order.{Order}
use Rattle.integral_index.specs.declared.Unit.{Unit}
use Rattle.sparse_row.specs.Row.{Row}
use Rattle.sector_forward.specs.Elimination.{IsOutside}
use Rattle.sector_machine.specs.State.{State}
use Rattle.sector_machine.specs.Machine.{Event, IsAfterForward, IsAfterBack}
use Rattle.reduction_core.specs.declared.slots.Slot.{Slot}
use Rattle.reduction_core.specs.Slots.{forward_of, back_of, HaveListedUnits}

-- the slot at this place is changed so, and the others are as before
abbrev pub IsChangedAt : (Slot → Slot → Type 0) → ℕ → List Slot → List Slot → Type 0
IsChangedAt R place slots after =
    (length after ≡ length slots) × ((k : ℕ) (d : Slot) → k < length slots → k ≢ place → slice_index_or after k d ≡ slice_index_or slots k d)
    × ((d : Slot) → R (slice_index_or slots place d) (slice_index_or after place d))

-- the slot of the unit is changed so, and every other is as before
pub record IsChangedFor (R : Slot → Slot → Type 0) (unit : Unit) (slot after : Slot) : Type 0 where
  pub unit_same : after.unit ≡ slot.unit
  pub own : slot.unit ≡ unit → R slot after
  pub other : slot.unit ≢ unit → after ≡ slot

-- the slot has these forward rows, and nothing waits there any more
pub record HasForward (rows : List Row) (slot after : Slot) : Type 0 where
  pub unit : after.unit ≡ slot.unit
  pub waiting : after.waiting ≡ []
  pub forward : forward_of after ≡ Some rows
  pub back : after.back ≡ slot.back

-- the slot has these back rows
pub record HasBack (rows : List Row) (slot after : Slot) : Type 0 where
  pub unit : after.unit ≡ slot.unit
  pub waiting : after.waiting ≡ slot.waiting
  pub forward : after.forward ≡ slot.forward
  pub back : back_of after ≡ Some rows

-- rows that may wait at these units when those of the unit are eliminated
pub record IsRestFor (order : Order) (unit : Unit) (units : List Unit) (rest : List Row) : Type 0 where
  pub p : ℕ
  pub outside : All (IsOutside p order unit) rest
  pub listed : HaveListedUnits order units rest

-- the state with the rows of the event
abbrev pub IsAfter : Order → Event → State → State → Type 0
IsAfter order (Event.Forward unit rows rest) before after = IsAfterForward order unit rows rest before after
IsAfter order (Event.Back unit rows) before after = IsAfterBack unit rows before after
