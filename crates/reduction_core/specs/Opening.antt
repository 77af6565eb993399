-- What the steps of the opening promise each other. No public call cites this file.
use Rattle.std.specs.Prelude.{◌≡◌, ◌⊎◌, None, List, [], Contains}
use Rattle.integral_index.specs.declared.Unit.{Unit}
use Rattle.integral_index.specs.Integral.{Integral}
use Rattle.integral_index.specs.Order.{unit_of}
use Rattle.sparse_row.specs.Row.{Row, Shows}
use Rattle.sector_forward.specs.Elimination.{IsShownBySome}
use Rattle.sector_machine.specs.Machine.{Ascends}
use Rattle.reduction_core.specs.declared.slots.Slot.{Slot}

-- the row shows an integral of the unit
abbrev pub ShowsUnit : Row → Unit → Type 0
ShowsUnit row unit = (x : Integral) × Shows row x × (unit_of x ≡ unit)

-- one of the rows shows an integral of the unit
abbrev pub ShowUnit : List Row → Unit → Type 0
ShowUnit rows unit = (x : Integral) × IsShownBySome rows x × (unit_of x ≡ unit)

-- the new units are in the list too, and it still ascends
pub record AreListed (are_new : Unit → Type 0) (old new : List Unit) : Type 0 where
  pub ascend : Ascends new
  pub kept : (unit : Unit) → Contains old unit → Contains new unit
  pub all : (unit : Unit) → are_new unit → Contains new unit
  pub only : (unit : Unit) → Contains new unit → Contains old unit ⊎ are_new unit

-- the slot of the unit, where nothing waits and nothing is done
pub record IsEmptySlot (unit : Unit) (slot : Slot) : Type 0 where
  pub unit_is : slot.unit ≡ unit
  pub waiting : slot.waiting ≡ []
  pub forward : slot.forward ≡ None
  pub back : slot.back ≡ None
