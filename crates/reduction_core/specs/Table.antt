-- A table: rows with their modulus and order, as `Table` is seen.
use Rattle.std.specs.Prelude.{ℕ, List, refl}
use Rattle.std.specs.Coded.{Coded, code_by, coded×, coded_ℕ, coded_list}
use Rattle.integral_index.specs.declared.Order.{Order}
use Rattle.integral_index.specs.contracts.Order as order_contracts
use Rattle.sparse_row.specs.Row.{Row, row_code}

pub record Table : Type 0 where
  pub modulus : ℕ
  pub order : Order
  pub rows : List Row

-- a table is stored as its fields
abbrev pub table_code : Coded Table
table_code =
    code_by (ℕ × (Order × List Row)) (coded× coded_ℕ (coded× (order_contracts.the_row).coded (coded_list row_code)))
    (λ t. (t.modulus, (t.order, t.rows))) (λ p. record { modulus = p.0; order = p.1.0; rows = p.1.1 }) (λ _. refl)
