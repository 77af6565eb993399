-- The plan of a job at its numeric point, as `Plan` is seen. The project's own.
use Rattle.std.specs.Prelude.{◌≡◌, ◌<◌, ◌≤◌, ◌↔◌, ℕ, List, length, map, All, Contains, slice_get, Some, Ok, Err}
use Rattle.std.specs.List.{AllZip}
use Rattle.std.specs.List.Sorted.{IsStrictlyIncreasing}
use Rattle.yaml_text.specs.Lines.{Bytes}
use Rattle.integral_index.specs.Integral.{Integral}
use Rattle.integral_index.specs.declared.Order.{Order}
use Rattle.integral_index.specs.declared.Order.TheVariants.{Standard}
use Rattle.seed_sets.specs.Seeds.{Ascends}
use Rattle.propagators.specs.Basis.{Basis}
use Rattle.family_schema.specs.declared.content.Family.{Family}
use Rattle.job_equations.specs.Equations.{AreSymmetriesOf, IsSeedOf}
use Rattle.job_point.specs.declared.points.AtPoint.{AtPoint}
use Rattle.job_point.specs.Steps.{Step, Then}
use Rattle.job_point.specs.Point.{IsAtPoint}
use Rattle.job_outline.specs.Outlines.{Outline}
use Rattle.job_outline.specs.Readings.{names_of}
use Rattle.job_plan.specs.declared.gathering.Integrals.{Integrals}
use Rattle.job_plan.specs.Gathering.{AreIntegrals}

-- the modulus, the order, the dimension, a residue, the name, the zero sectors, the denominators and the
-- symmetries of each family, the seeds of the equations, and the selection
pub record Plan : Type 0 where
  pub modulus : ℕ
  pub order : Order
  pub dimension : ℕ
  pub names : List Bytes
  pub zeros : List (List ℕ)
  pub bases : List Basis
  pub symmetries : List (List (List ℕ))
  pub seeds : List Integral
  pub selection : List Integral

-- the number of denominators of each family
abbrev pub widths_of : List Basis → List ℕ
widths_of bases = map (λ basis. length basis.denominators) bases

-- the family of the integral has a basis, with as many denominators as the integral has indices
pub record IsOfFamily (bases : List Basis) (x : Integral) : Type 0 where
  pub basis : Basis
  pub found : slice_get bases x.family ≡ Some basis
  pub width : length x.indices ≡ length basis.denominators

-- what every plan keeps: at most 16 families, of which each has all four, a residue, bases at the modulus,
-- symmetries of the denominators, seeds that have equations, and a selection of integrals of the families,
-- ascending, each once
pub record IsWhole (plan : Plan) : Type 0 where
  pub few : length plan.names ≤ 16
  pub zeros_of_all : length plan.zeros ≡ length plan.names
  pub bases_of_all : length plan.bases ≡ length plan.names
  pub dimension_below : plan.dimension < plan.modulus
  pub moduli : All (λ basis. basis.point.modulus ≡ plan.modulus) plan.bases
  pub symmetries_of_all : AllZip AreSymmetriesOf plan.bases plan.symmetries
  pub seeds : All (IsSeedOf plan.bases) plan.seeds
  pub selection : All (IsOfFamily plan.bases) plan.selection
  pub ascends : Ascends plan.order plan.selection

-- the listed zero sectors of a family, ascending and each once
pub record AreZerosOf (family : Family) (zeros : List ℕ) : Type 0 where
  pub ascending : IsStrictlyIncreasing zeros
  pub same : (sector : ℕ) → Contains zeros sector ↔ Contains family.zero_sectors sector

-- the plan has these integrals and these values, and the names and the zero sectors of the families in their
-- order
pub record IsPlanOf (families : List Family) (integrals : Integrals) (at : AtPoint) (plan : Plan) : Type 0 where
  pub modulus : plan.modulus ≡ at.modulus
  pub order : plan.order ≡ Standard
  pub dimension : plan.dimension ≡ at.dimension
  pub names : plan.names ≡ names_of families
  pub zeros : AllZip AreZerosOf families plan.zeros
  pub bases : plan.bases ≡ at.bases
  pub symmetries : plan.symmetries ≡ at.symmetries
  pub seeds_are : plan.seeds ≡ integrals.seeds
  pub selection_is : plan.selection ≡ integrals.selection

-- it has no fault of its own
abbrev pub HasPlan : List Family → Integrals → AtPoint → Step Plan
HasPlan families integrals at (Ok plan) = IsPlanOf families integrals at plan
HasPlan families integrals at (Err e) = ⊥

-- The integrals of the job, or the first fault there; then the values at the numeric point, or the first fault
-- there; and then their plan.
abbrev pub IsPlan : Outline → List Bytes → Step Plan
IsPlan outline texts =
    Then (AreIntegrals outline texts) (λ integrals.
    Then (IsAtPoint outline.point.prime outline.kinematics outline.families outline.point.settings) (HasPlan outline.families integrals))
