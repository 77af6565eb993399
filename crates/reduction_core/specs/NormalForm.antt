-- The normal form of an integral under a table of rows, and the masters of a selection.
-- Source: Laporta, hep-ph/0102033, and Kira, arXiv:1705.05610: an integral is expressed by masters.
use Rattle.std.specs.Prelude.{ℕ, ◌-◌, ◌%◌, Bool, not, ◌&&◌, ◌==◌, if◌then◌else◌, Option, None, Some, List, [], ◌∷◌, find, Contains}
use Rattle.std.specs.Prelude as prelude
use Rattle.std.specs.List.{list_all, flat_map}
use Rattle.std.specs.FinMap as map
use Rattle.std.specs.Ordering.{is_gt}
use Rattle.integral_index.specs.declared.Order.{Order}
use Rattle.integral_index.specs.Integral.{Integral, sector_of}
use Rattle.integral_index.specs.Order.{compare}
use Rattle.integral_index.specs.ZeroSectors.{is_zero_sector}
use Rattle.sparse_row.specs.Row.{Row, coefficient, Shows}

-- the row that shows nothing
abbrev pub empty_row : Order → Row
empty_row order = record { order = order; terms = map.empty }

-- the row of one integral alone, with coefficient 1
abbrev pub unit_row : Order → Integral → Row
unit_row order x = record { order = order; terms = map.insert map.empty x 1 }

-- whether x is the pivot of the row: it has the coefficient 1, and nothing that the row shows is greater
abbrev pub is_pivot : Order → Row → Integral → Bool
is_pivot order row x = (coefficient row x == 1) && list_all (λ y. not (is_gt (compare order y x))) (map.keys row.terms)

-- the row of the table whose pivot is x
abbrev pub rule_for : Order → List Row → Integral → Option Row
rule_for order table x = find (λ row. is_pivot order row x) table

-- the row 'x + c*y + .. = 0' solved for x: what it equals is the sum of the (p - c)*y
abbrev pub solved : ℕ → Row → Integral → Row
solved p row x =
    record { order = row.order; terms = map.from_entries (prelude.map (λ e. (e.0, (p - e.1) % p)) (map.entries (map.remove row.terms x))) }

-- the rule of x, solved for it, and x itself where there is none
abbrev pub by_rule : ℕ → Order → Integral → Option Row → Row
by_rule p order x (Some rule) = solved p rule x
by_rule p order x None = unit_row order x

-- what x equals: nothing where its sector is zero, by its rule where it is a pivot, and else itself.
-- The zero sectors are those that are listed for the family of x
abbrev pub normal_form : ℕ → Order → List ℕ → List Row → Integral → Row
normal_form p order zeros table x =
    if is_zero_sector zeros (sector_of x.indices) then empty_row order else by_rule p order x (rule_for order table x)

-- y is shown by the normal form of a selected integral. `zeros family` are the zero sectors listed for a family
abbrev pub IsMaster : ℕ → Order → (ℕ → List ℕ) → List Row → List Integral → Integral → Type 0
IsMaster p order zeros table selection y =
    (x : Integral) × Contains selection x × Shows (normal_form p order (zeros x.family) table x) y

-- the masters, ascending, each once: the keys of a map in the order of the integrals
abbrev pub masters : ℕ → Order → (ℕ → List ℕ) → List Row → List Integral → List Integral
masters p order zeros table selection =
    map.keys (map.from_entries {R = compare order} (flat_map (λ x. map.entries (normal_form p order (zeros x.family) table x).terms) selection))
