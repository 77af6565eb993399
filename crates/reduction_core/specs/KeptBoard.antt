-- How a board is kept: by unit, with what holds of the rows of each state that a run reaches.
use Rattle.std.specs.Prelude.{ℕ, List}
use Rattle.field_word.specs.Residues.{IsModulus}
use Rattle.integral_index.specs.declared.Order.{Order}
use Rattle.sparse_row.specs.Row.{Row}
use Rattle.sector_machine.specs.State.{State}
use Rattle.sector_machine.specs.Invariant.{HoldsOfRows}
use Rattle.reduction_core.specs.declared.board.Board.TheInside.{Inside}
use Rattle.reduction_core.specs.Slots.{state_of}
use Rattle.reduction_core.specs.Board.{Board}

abbrev pub shown : Inside → Board
shown a = record { state = state_of a.slots.items; modulus = a.modulus; order = a.order }

-- the state could be one of some equations, as far as its rows tell
pub record IsBoard (p : ℕ) (order : Order) (state : State) : Type 0 where
  pub modulus : IsModulus p
  pub equations : List Row
  pub holds : HoldsOfRows p order equations state

abbrev pub IsKept : Inside → Type 0
IsKept a = IsBoard a.modulus a.order (state_of a.slots.items)
