-- The units of a board with their rows, and the state of the machine that they are. The project's own.
use Rattle.std.specs.Prelude.{◌≡◌, ◌≢◌, ℕ, ◌<◌, Option, None, Some, List, [], ◌∷◌, ◌++◌, map, length, filter, slice_index_or, Contains}
use Rattle.std.specs.FinMap as finite
use Rattle.std.specs.Option.{option_map}
use Rattle.integral_index.specs.declared.Order.{Order}
use Rattle.integral_index.specs.declared.Unit.{Unit}
use Rattle.integral_index.specs.Integral.{Integral}
use Rattle.integral_index.specs.Order.{unit_of}
use Rattle.sparse_row.specs.Row.{Row, IsGreatest}
use Rattle.sector_machine.specs.State.{State, RowsByUnit, unless_empty, has_greatest_in}
use Rattle.reduction_core.specs.declared.slots.Slot.{Slot}

-- what a slot has of each of the three lists
abbrev pub waiting_of : Slot → Option (List Row)
waiting_of slot = unless_empty slot.waiting

abbrev pub forward_of : Slot → Option (List Row)
forward_of slot = slot.forward

abbrev pub back_of : Slot → Option (List Row)
back_of slot = option_map (λ rows. rows.items) slot.back

abbrev pub with_rows : RowsByUnit → Unit → Option (List Row) → RowsByUnit
with_rows by_unit unit None = by_unit
with_rows by_unit unit (Some rows) = finite.insert by_unit unit rows

-- the lists of rows by unit
abbrev pub by_unit : (Slot → Option (List Row)) → List Slot → RowsByUnit
by_unit part [] = finite.empty
by_unit part (slot ∷ slots) = with_rows (by_unit part slots) slot.unit (part slot)

abbrev pub units_of : List Slot → List Unit
units_of slots = map (λ slot. slot.unit) slots

-- the state of the machine
abbrev pub state_of : List Slot → State
state_of slots = record { units = units_of slots; waiting = by_unit waiting_of slots; forward = by_unit forward_of slots; back = by_unit back_of slots }

-- the slot at this place is that of the unit
abbrev pub IsUnitAt : List Slot → Unit → ℕ → Type 0
IsUnitAt slots unit place = (place < length slots) × ((d : Slot) → (slice_index_or slots place d).unit ≡ unit)

-- the rows wait behind the others, and the rest is as before
pub record HasJoined (rows : List Row) (slot after : Slot) : Type 0 where
  pub unit : after.unit ≡ slot.unit
  pub waiting : after.waiting ≡ slot.waiting ++ rows
  pub forward : after.forward ≡ slot.forward
  pub back : after.back ≡ slot.back

-- the row waits behind the others at this place, and the rest is as before
abbrev pub IsPushedAt : ℕ → Row → List Slot → List Slot → Type 0
IsPushedAt place row slots after =
    (length after ≡ length slots) × ((k : ℕ) (d : Slot) → k < length slots → k ≢ place → slice_index_or after k d ≡ slice_index_or slots k d)
    × ((d : Slot) → HasJoined (row ∷ []) (slice_index_or slots place d) (slice_index_or after place d))

-- the rows wait at the units of their greatest integrals, behind what waits there
abbrev pub IsJoined : Order → List Row → Slot → Slot → Type 0
IsJoined order rows slot after = HasJoined (filter (has_greatest_in order slot.unit) rows) slot after

-- the greatest integrals of the rows are of these units
abbrev pub HaveListedUnits : Order → List Unit → List Row → Type 0
HaveListedUnits order units rows = (row : Row) (x : Integral) → Contains rows row → IsGreatest order row x → Contains units (unit_of x)
