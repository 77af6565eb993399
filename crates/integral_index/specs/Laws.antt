-- The laws of the comparisons of integrals and units.
use Rattle.std.specs.Prelude.{◌≡◌, ◌≢◌, ◌↔◌}
use Rattle.std.specs.Cmp.{IsTotalOrder}
use Rattle.std.specs.declared.cmp.Ordering.TheVariants.{Equal}
use Rattle.integral_index.specs.declared.Order.{Order}
use Rattle.integral_index.specs.declared.Unit.{Unit}
use Rattle.integral_index.specs.Integral.{Integral}
use Rattle.integral_index.specs.Order.{compare, unit_compare, unit_of, by_fields}

abbrev pub OrderIsTotal : Order → Type 0
OrderIsTotal order = IsTotalOrder (compare order)

abbrev pub OrderTellsApart : Order → Type 0
OrderTellsApart order = (x y : Integral) → (compare order x y ≡ Equal) ↔ (x ≡ y)

-- of two integrals of different units the one of the greater unit is the greater
abbrev pub OrderRefinesUnits : Order → Type 0
OrderRefinesUnits order = (x y : Integral) → unit_of x ≢ unit_of y → compare order x y ≡ unit_compare (unit_of x) (unit_of y)

abbrev pub UnitOrderIsTotal : Type 0
UnitOrderIsTotal = IsTotalOrder unit_compare

abbrev pub UnitOrderTellsApart : Type 0
UnitOrderTellsApart = (x y : Unit) → (unit_compare x y ≡ Equal) ↔ (x ≡ y)

abbrev pub FieldsAreTotal : Type 0
FieldsAreTotal = IsTotalOrder by_fields

abbrev pub FieldsTellApart : Type 0
FieldsTellApart = (x y : Integral) → (by_fields x y ≡ Equal) ↔ (x ≡ y)
