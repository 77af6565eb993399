-- The laws of symmetries. The project's own.
use Rattle.std.specs.Prelude.{◌≡◌, ℕ, ◌<◌, ◌≤◌, List, length}
use Rattle.integral_index.specs.declared.Order.{Order}
use Rattle.integral_index.specs.Integral.{Integral}
use Rattle.propagators.specs.Forms.{Form}
use Rattle.propagators.specs.Combinations.{AreIndependent}
use Rattle.sparse_row.specs.Row.{Row, IsEmpty}
use Rattle.symmetry_maps.specs.Symmetry.{IsSymmetry, IsAtFault}
use Rattle.symmetry_maps.specs.Equation.{IsMoved, IsSymmetryEquation}

-- for independent forms there is at most one permutation
abbrev pub OneSymmetry : Type 0
OneSymmetry =
    (p : ℕ) (images forms : List Form) (places others : List ℕ) → 1 < p → AreIndependent p forms
    → IsSymmetry images forms places → IsSymmetry images forms others → places ≡ others

-- where a denominator is at fault there is none
abbrev pub FaultRefutesSymmetry : Type 0
FaultRefutesSymmetry =
    (p : ℕ) (images forms : List Form) (j : ℕ) (places : List ℕ) → 1 < p → AreIndependent p forms
    → 1 ≤ j → j ≤ length forms → IsAtFault images forms j → ¬ (IsSymmetry images forms places)

-- two rows that are the equation of one seed and one symmetry are equal
abbrev pub OneSymmetryEquation : Type 0
OneSymmetryEquation =
    (p : ℕ) (places : List ℕ) (seed : Integral) (zeros : List ℕ) (order : Order) (row other : Row)
    → IsSymmetryEquation p places seed zeros order row → IsSymmetryEquation p places seed zeros order other → row ≡ other

-- where σa is a, the equation is the empty row
abbrev pub FixedSeedHasEmptyEquation : Type 0
FixedSeedHasEmptyEquation =
    (p : ℕ) (places : List ℕ) (seed : Integral) (zeros : List ℕ) (order : Order) (row : Row) → 1 < p
    → IsMoved places seed.indices seed.indices → IsSymmetryEquation p places seed zeros order row → IsEmpty row
