-- What can be told of the rows of an event, and of the rest, without looking at the other units. The project's own.
use Rattle.std.specs.Prelude.{◌≡◌, ◌≢◌, ℕ, ◌<◌, List, ◌++◌, length, slice_index_or, All, Contains}
use Rattle.integral_index.specs.declared.Order.{Order}
use Rattle.integral_index.specs.declared.Unit.{Unit}
use Rattle.integral_index.specs.Integral.{Integral}
use Rattle.sparse_row.specs.Row.{Row, coefficient, Shows, IsPivot}
use Rattle.sector_forward.specs.Elimination.{IsOutside, IsShownBySome}
use Rattle.back_substitute.specs.Substitution.{AreRules}
use Rattle.sector_machine.specs.Machine.{HaveThePivots}
use Rattle.sector_machine.specs.Accepted.{ShowNothingNew}

-- rows and a rest that a unit may have made of the taken rows
pub record FitForward (p : ℕ) (order : Order) (unit : Unit) (taken rows rest : List Row) : Type 0 where
  pub rules : AreRules p order unit rows
  pub outside : All (IsOutside p order unit) rest
  pub nothing_new : ShowNothingNew taken (rows ++ rest)

-- rows that may be the back rows of a unit with these forward rows
pub record FitBack (p : ℕ) (order : Order) (unit : Unit) (forward rows : List Row) : Type 0 where
  pub rules : AreRules p order unit rows
  pub pivots : HaveThePivots order forward rows

abbrev pub HasOrder : Order → Row → Type 0
HasOrder order row = row.order ≡ order

-- the row doesn't show the pivot of the rule
abbrev pub IsClearOf : Order → Row → Row → Type 0
IsClearOf order rule row = (x : Integral) → IsPivot order rule x → coefficient row x ≡ 0

-- no other row shows the pivot of the row at the place
abbrev pub IsApartAt : Order → List Row → ℕ → Type 0
IsApartAt order rows place = (k : ℕ) (d : Row) → k < length rows → place ≢ k → IsClearOf order (slice_index_or rows place d) (slice_index_or rows k d)

-- each integral that the row shows is shown by one of the others
abbrev pub ShowsOnly : List Row → Row → Type 0
ShowsOnly others row = (x : Integral) → Shows row x → IsShownBySome others x

-- x is the pivot of one of the rows
abbrev pub IsPivotOfSome : Order → List Row → Integral → Type 0
IsPivotOfSome order rows x = (row : Row) × Contains rows row × IsPivot order row x

-- the pivot of the other is that of one of the rows
abbrev pub KeepsPivot : Order → List Row → Row → Type 0
KeepsPivot order rows other = (x : Integral) → IsPivot order other x → IsPivotOfSome order rows x
