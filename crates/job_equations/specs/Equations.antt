-- The seeded equations of a job. Source: Kira, arXiv:1705.05610, and Laporta, hep-ph/0102033.
use Rattle.std.specs.Prelude.{◌≡◌, ℕ, List, length, Some, All}
use Rattle.std.specs.List.{slice_get, AllZip}
use Rattle.integral_index.specs.Integral.{Integral}
use Rattle.integral_index.specs.declared.Order.{Order}
use Rattle.propagators.specs.Basis.{Basis}
use Rattle.sparse_row.specs.Row.{Row}
use Rattle.ibp_generator.specs.Shifts.{IsSeedIndex}
use Rattle.ibp_generator.specs.Equation.{IsEquation}
use Rattle.symmetry_maps.specs.Equation.{IsSymmetryEquation}
use Rattle.job_equations.specs.Places.{Origin, Derivative, Symmetry, Place, places}

-- a seed whose family has a basis, and which has an index from -100 to 100 for each of its denominators
pub record IsSeedOf (bases : List Basis) (seed : Integral) : Type 0 where
  pub basis : Basis
  pub found : slice_get bases seed.family ≡ Some basis
  pub width : length seed.indices ≡ length basis.denominators
  pub indices : All IsSeedIndex seed.indices

-- each symmetry has a place for each denominator
abbrev pub AreSymmetriesOf : Basis → List (List ℕ) → Type 0
AreSymmetriesOf basis symmetries = All (λ places. length places ≡ length basis.denominators) symmetries

-- the row is the equation of the seed that comes from this
abbrev pub IsEquationFrom : Basis → ℕ → Integral → List ℕ → Order → Origin → Row → Type 0
IsEquationFrom basis d seed zeros order (Derivative loop_number momentum_number) row = IsEquation basis d loop_number momentum_number seed zeros order row
IsEquationFrom basis d seed zeros order (Symmetry σ) row = IsSymmetryEquation basis.point.modulus σ seed zeros order row

-- the row is the equation of its place, by the basis and the zero sectors of the seed's family
pub record IsEquationAt (bases : List Basis) (zeros : List (List ℕ)) (d : ℕ) (order : Order) (place : Place) (row : Row) : Type 0 where
  pub basis : Basis
  pub zero_sectors : List ℕ
  pub has_basis : slice_get bases place.seed.family ≡ Some basis
  pub has_zeros : slice_get zeros place.seed.family ≡ Some zero_sectors
  pub is : IsEquationFrom basis d place.seed zero_sectors order place.origin row

-- one row for each place of the seeds, in order, and each row is the equation of its place
abbrev pub AreEquations : List Basis → List (List (List ℕ)) → List (List ℕ) → ℕ → Order → List Integral → List Row → Type 0
AreEquations bases symmetries zeros d order seeds rows = AllZip (IsEquationAt bases zeros d order) (places bases symmetries seeds) rows
