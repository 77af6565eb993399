-- What can be told of the rows of an event without their spans. The project's own: it is what is asked of rows that were
-- computed elsewhere, or read from a file.
use Rattle.std.specs.Prelude.{ℕ, List, ◌++◌, All, Contains}
use Rattle.integral_index.specs.declared.Order.{Order}
use Rattle.integral_index.specs.declared.Unit.{Unit}
use Rattle.integral_index.specs.Integral.{Integral}
use Rattle.sparse_row.specs.Row.{Row, Shows}
use Rattle.sector_forward.specs.Elimination.{IsOutside, IsShownBySome}
use Rattle.back_substitute.specs.Substitution.{AreRules, ShowsNoPivotOf}
use Rattle.sector_machine.specs.State.{State, rows_at}
use Rattle.sector_machine.specs.Machine.{MayForward, MayBack, HaveThePivots, back_rows}

-- the rows show only integrals that the others show
abbrev pub ShowNothingNew : List Row → List Row → Type 0
ShowNothingNew others rows = (row : Row) (x : Integral) → Contains rows row → Shows row x → IsShownBySome others x

-- rows for a forward event that may happen: the rows have distinct pivots of the unit, each pivot 1 and in no other of them,
-- the rest shows nothing of the unit, no row of it is empty, and both show only integrals that the taken rows show
pub record IsAcceptedForward (p : ℕ) (order : Order) (state : State) (unit : Unit) (rows rest : List Row) : Type 0 where
  pub may : MayForward order unit state
  pub rules : AreRules p order unit rows
  pub outside : All (IsOutside p order unit) rest
  pub nothing_new : ShowNothingNew (rows_at state.waiting unit) (rows ++ rest)

-- rows for a back event that may happen: they have distinct pivots of the unit, each pivot 1 and in no other of them, which are
-- those of its forward rows, show no pivot of B, and show only integrals that the forward rows or B show
pub record IsAcceptedBack (p : ℕ) (order : Order) (state : State) (unit : Unit) (rows : List Row) : Type 0 where
  pub may : MayBack unit state
  pub rules : AreRules p order unit rows
  pub pivots : HaveThePivots order (rows_at state.forward unit) rows
  pub clear : All (ShowsNoPivotOf order (back_rows state)) rows
  pub nothing_new : ShowNothingNew (rows_at state.forward unit ++ back_rows state) rows
