-- Laws on the forward elimination of a unit, each the contract of a function of `laws`.
use Rattle.std.specs.Prelude.{ℕ, List, Contains, ◌++◌}
use Rattle.integral_index.specs.declared.Order.{Order}
use Rattle.integral_index.specs.declared.Unit.{Unit}
use Rattle.integral_index.specs.Integral.{Integral}
use Rattle.sparse_row.specs.Row.{Row, Shows, IsPivot}
use Rattle.sparse_row.specs.Span.{SameSpan}
use Rattle.sector_forward.specs.Elimination.{IsElimination, IsShownBySome}

-- two eliminations of the same rows have the same pivots
abbrev pub OnePivots : Type 0
OnePivots =
    (p : ℕ) (order : Order) (unit : Unit) (taken rows rest others others_rest : List Row) (row : Row) (x : Integral)
    → IsElimination p order unit taken rows rest → IsElimination p order unit taken others others_rest
    → Contains rows row → IsPivot order row x → (other : Row) × Contains others other × IsPivot order other x

-- and their rests have the same span
abbrev pub OneRest : Type 0
OneRest =
    (p : ℕ) (order : Order) (unit : Unit) (taken rows rest others others_rest : List Row)
    → IsElimination p order unit taken rows rest → IsElimination p order unit taken others others_rest
    → SameSpan p rest others_rest

-- rows and rest show only integrals that the rows taken show
abbrev pub NothingNew : Type 0
NothingNew =
    (p : ℕ) (order : Order) (unit : Unit) (taken rows rest : List Row) (row : Row) (x : Integral)
    → IsElimination p order unit taken rows rest → Contains (rows ++ rest) row → Shows row x → IsShownBySome taken x
