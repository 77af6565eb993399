-- A row: one linear relation among integrals, as a finite map from integrals to residues other than 0.
-- Source: Laporta, hep-ph/0102033, and Kira, arXiv:1705.05610, whose equations these are.
use Rattle.std.specs.Prelude.{◌≡◌, ◌≢◌, ℕ, ◌<◌, Some, unwrap_or, refl}
use Rattle.std.specs.Coded.{Coded, code_by, coded×, coded_ℕ}
use Rattle.std.specs.FinMap as map
use Rattle.std.specs.declared.cmp.Ordering.TheVariants.{Greater}
use Rattle.integral_index.specs.declared.Order.{Order}
use Rattle.integral_index.specs.contracts.Order as order_contracts
use Rattle.integral_index.specs.Integral.{Integral, integral_code}
use Rattle.integral_index.specs.Order.{by_fields, compare}

-- the order is kept beside the terms, since it is chosen at run time; the map itself is under a fixed comparison
pub record Row : Type 0 where
  pub order : Order
  pub terms : map.FinMap by_fields ℕ

-- a row is stored as the pair of its fields
abbrev pub row_code : Coded Row
row_code =
    code_by (Order × map.FinMap by_fields ℕ) (coded× (order_contracts.the_row).coded (map.code integral_code coded_ℕ))
    (λ row. (row.order, row.terms)) (λ p. record { order = p.0; terms = p.1 }) (λ _. refl)

-- the coefficient of x in the row, and 0 where the row doesn't show x
abbrev pub coefficient : Row → Integral → ℕ
coefficient row x = unwrap_or (map.get row.terms x) 0

-- the row shows x
abbrev pub Shows : Row → Integral → Type 0
Shows row x = coefficient row x ≢ 0

-- a row of residues modulo p in this order, which keeps no coefficient 0
pub record IsRow (p : ℕ) (order : Order) (row : Row) : Type 0 where
  pub ordered : row.order ≡ order
  pub below : (x : Integral) → coefficient row x < p
  pub no_zero : (x : Integral) → map.get row.terms x ≢ Some 0

-- the row shows nothing
abbrev pub IsEmpty : Row → Type 0
IsEmpty row = (x : Integral) → coefficient row x ≡ 0

-- x is the greatest integral that the row shows
pub record IsGreatest (order : Order) (row : Row) (x : Integral) : Type 0 where
  pub shown : Shows row x
  pub greatest : (y : Integral) → Shows row y → compare order y x ≢ Greater

-- x is the pivot of the row: its greatest integral, with the coefficient 1
pub record IsPivot (order : Order) (row : Row) (x : Integral) : Type 0 where
  pub is_greatest : IsGreatest order row x
  pub one : coefficient row x ≡ 1
