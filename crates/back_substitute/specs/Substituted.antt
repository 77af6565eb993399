-- The outcome of the back substitution of a unit, as `Substituted` is seen.
use Rattle.std.specs.Prelude.{ℕ, List, refl}
use Rattle.std.specs.Coded.{Coded, code_by, coded×, coded_ℕ, coded_list}
use Rattle.integral_index.specs.declared.Order.{Order}
use Rattle.integral_index.specs.declared.Unit.{Unit}
use Rattle.integral_index.specs.contracts.Order as order_contracts
use Rattle.integral_index.specs.contracts.Unit as unit_contracts
use Rattle.sparse_row.specs.Row.{Row, row_code}

pub record Substituted : Type 0 where
  pub unit : Unit
  pub modulus : ℕ
  pub order : Order
  pub input : List Row
  pub below : List Row
  pub rows : List Row

-- an outcome is stored as its fields
abbrev pub substituted_code : Coded Substituted
substituted_code =
    code_by (Unit × (ℕ × (Order × (List Row × (List Row × List Row)))))
    (coded× (unit_contracts.the_row).coded (coded× coded_ℕ (coded× (order_contracts.the_row).coded (coded× (coded_list row_code) (coded× (coded_list row_code) (coded_list row_code))))))
    (λ s. (s.unit, (s.modulus, (s.order, (s.input, (s.below, s.rows))))))
    (λ p. record { unit = p.0; modulus = p.1.0; order = p.1.1.0; input = p.1.1.1.0; below = p.1.1.1.1.0; rows = p.1.1.1.1.1 }) (λ _. refl)
