-- Laws on the back substitution of one unit, each the contract of a function of `laws`.
use Rattle.std.specs.Prelude.{◌≡◌, ℕ, List, ◌++◌, All, Contains}
use Rattle.integral_index.specs.declared.Order.{Order}
use Rattle.integral_index.specs.declared.Unit.{Unit}
use Rattle.integral_index.specs.Integral.{Integral}
use Rattle.sparse_row.specs.Row.{Row, Shows, IsRow, IsPivot}
use Rattle.sparse_row.specs.Span.{SameSpan}
use Rattle.sector_forward.specs.Elimination.{AreApart, IsShownBySome}
use Rattle.back_substitute.specs.Substitution.{ShowsNoPivotOf, IsSubstitution}

-- two back substitutions of the same rows with the same rows below are equal
abbrev pub OneSubstitution : Type 0
OneSubstitution =
    (p : ℕ) (order : Order) (unit : Unit) (input below rows others : List Row)
    → IsSubstitution p order unit input below rows → IsSubstitution p order unit input below others → rows ≡ others

-- the rows show only integrals that the input or the rows below show
abbrev pub NothingNew : Type 0
NothingNew =
    (p : ℕ) (order : Order) (unit : Unit) (input below rows : List Row) (row : Row) (x : Integral)
    → IsSubstitution p order unit input below rows → Contains rows row → Shows row x → IsShownBySome (input ++ below) x

-- rows with the pivots apart, and some of them, among which are all whose pivots the input shows
pub record HasAllShown (p : ℕ) (order : Order) (input below all : List Row) : Type 0 where
  pub rows : All (IsRow p order) all
  pub apart : AreApart order all
  pub among : (row : Row) → Contains below row → Contains all row
  pub enough : (row : Row) (x : Integral) → Contains all row → IsPivot order row x → IsShownBySome input x → Contains below row

-- where the rows below are enough of a longer list, the rows are a back substitution with all of that list
abbrev pub ServesAllBelow : Type 0
ServesAllBelow =
    (p : ℕ) (order : Order) (unit : Unit) (input below rows all : List Row)
    → IsSubstitution p order unit input below rows → HasAllShown p order input below all
    → All (ShowsNoPivotOf order all) rows × SameSpan p (input ++ all) (rows ++ all)
