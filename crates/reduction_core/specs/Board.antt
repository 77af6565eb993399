-- A board: a state of the machine with its modulus and order, as `Board` is seen.
use Rattle.std.specs.Prelude.{ℕ, refl}
use Rattle.std.specs.Coded.{Coded, code_by, coded×, coded_ℕ}
use Rattle.integral_index.specs.declared.Order.{Order}
use Rattle.integral_index.specs.contracts.Order as order_contracts
use Rattle.sector_machine.specs.State.{State, state_code}

pub record Board : Type 0 where
  pub state : State
  pub modulus : ℕ
  pub order : Order

-- a board is stored as its fields
abbrev pub board_code : Coded Board
board_code =
    code_by (State × (ℕ × Order)) (coded× state_code (coded× coded_ℕ (order_contracts.the_row).coded))
    (λ b. (b.state, (b.modulus, b.order))) (λ p. record { state = p.0; modulus = p.1.0; order = p.1.1 }) (λ _. refl)
