-- A state of the machine of units: which rows wait, and which units have their forward rows and their back rows.
-- Source: Kira, arXiv:1705.05610, which eliminates sector by sector and then substitutes back; the states are the project's own.
use Rattle.std.specs.Prelude.{◌≡◌, ◌≢◌, Bool, not, ◌&&◌, Option, None, Some, unwrap_or, List, [], ◌∷◌, Contains, flat_map, refl}
use Rattle.std.specs.Coded.{Coded, code_by, coded×, coded_list}
use Rattle.std.specs.FinMap as map
use Rattle.std.specs.List.{list_any, list_all}
use Rattle.std.specs.Ordering.{is_gt, eq_by_cmp}
use Rattle.integral_index.specs.declared.Order.{Order}
use Rattle.integral_index.specs.declared.Unit.{Unit}
use Rattle.integral_index.specs.contracts.Unit as unit_contracts
use Rattle.integral_index.specs.Integral.{Integral}
use Rattle.integral_index.specs.Order.{compare, unit_of, unit_compare}
use Rattle.sparse_row.specs.Row.{Row, row_code}

-- lists of rows by unit; a unit that isn't there has none
abbrev pub RowsByUnit : Type 0
RowsByUnit = map.FinMap unit_compare (List Row)

-- the units of the job, ascending; the waiting rows by the unit of their greatest integral, where a unit without any isn't
-- there; and the forward rows and the back rows of the units that have them
pub record State : Type 0 where
  pub units : List Unit
  pub waiting : RowsByUnit
  pub forward : RowsByUnit
  pub back : RowsByUnit

-- a state is stored as its fields
abbrev pub state_code : Coded State
state_code =
    let rows : Coded RowsByUnit = map.code (unit_contracts.the_row).coded (coded_list row_code) in
    code_by (List Unit × (RowsByUnit × (RowsByUnit × RowsByUnit)))
    (coded× (coded_list (unit_contracts.the_row).coded) (coded× rows (coded× rows rows)))
    (λ s. (s.units, (s.waiting, (s.forward, s.back))))
    (λ p. record { units = p.0; waiting = p.1.0; forward = p.1.1.0; back = p.1.1.1 }) (λ _. refl)

-- the unit is there, perhaps with no rows
abbrev pub Has : RowsByUnit → Unit → Type 0
Has by_unit unit = map.get by_unit unit ≢ None

-- the unit isn't there
abbrev pub HasNone : RowsByUnit → Unit → Type 0
HasNone by_unit unit = map.get by_unit unit ≡ None

-- the rows of the unit
abbrev pub rows_at : RowsByUnit → Unit → List Row
rows_at by_unit unit = unwrap_or (map.get by_unit unit) []

-- the row is one of some unit
abbrev pub IsAmong : RowsByUnit → Row → Type 0
IsAmong by_unit row = (unit : Unit) × Contains (rows_at by_unit unit) row

-- the rows of these units, unit by unit, and those of a unit in their order
abbrev pub rows_of : List Unit → RowsByUnit → List Row
rows_of units by_unit = flat_map (rows_at by_unit) units

-- what a map has for a unit with these rows, where units without rows aren't there
abbrev pub unless_empty : List Row → Option (List Row)
unless_empty [] = None
unless_empty (row ∷ rows) = Some (row ∷ rows)

-- whether nothing that the row shows is greater than x
abbrev pub is_greatest : Order → Row → Integral → Bool
is_greatest order row x = list_all (λ y. not (is_gt (compare order y x))) (map.keys row.terms)

-- whether the greatest integral of the row is of the unit; that of an empty row is of none
abbrev pub has_greatest_in : Order → Unit → Row → Bool
has_greatest_in order unit row = list_any (λ x. eq_by_cmp unit_compare (unit_of x) unit && is_greatest order row x) (map.keys row.terms)
