-- The outcome of the forward elimination of a unit, as `Eliminated` is seen.
use Rattle.std.specs.Prelude.{ℕ, List, refl}
use Rattle.std.specs.Coded.{Coded, code_by, coded×, coded_ℕ, coded_list}
use Rattle.integral_index.specs.declared.Order.{Order}
use Rattle.integral_index.specs.declared.Unit.{Unit}
use Rattle.integral_index.specs.contracts.Order as order_contracts
use Rattle.integral_index.specs.contracts.Unit as unit_contracts
use Rattle.sparse_row.specs.Row.{Row, row_code}

pub record Eliminated : Type 0 where
  pub unit : Unit
  pub modulus : ℕ
  pub order : Order
  pub input : List Row
  pub rows : List Row
  pub rest : List Row

-- an outcome is stored as its fields
abbrev pub eliminated_code : Coded Eliminated
eliminated_code =
    code_by (Unit × (ℕ × (Order × (List Row × (List Row × List Row)))))
    (coded× (unit_contracts.the_row).coded (coded× coded_ℕ (coded× (order_contracts.the_row).coded (coded× (coded_list row_code) (coded× (coded_list row_code) (coded_list row_code))))))
    (λ e. (e.unit, (e.modulus, (e.order, (e.input, (e.rows, e.rest))))))
    (λ p. record { unit = p.0; modulus = p.1.0; order = p.1.1.0; input = p.1.1.1.0; rows = p.1.1.1.1.0; rest = p.1.1.1.1.1 }) (λ _. refl)
