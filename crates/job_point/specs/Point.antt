-- What a job says at its numeric point, and which fault comes first. The project's own.
use Rattle.std.specs.Prelude.{◌≡◌, ℕ, List, [], length, map, All, Ok, Err}
use Rattle.kinematics.specs.declared.rules.Rule.{Rule}
use Rattle.kinematics.specs.declared.rules.PointFault.{PointFault}
use Rattle.kinematics.specs.declared.rules.PointFault.TheVariants as point_fault
use Rattle.kinematics.specs.Points.{Point}
use Rattle.kinematics.specs.Rules.{IsPointOf, IsRulesClash, IsRulesOpen}
use Rattle.matrix_elimination.specs.Fault.{IsProperDivisor}
use Rattle.propagators.specs.declared.denominators.Denominator.{Denominator}
use Rattle.propagators.specs.declared.denominators.Denominator.TheVariants as denominator
use Rattle.propagators.specs.declared.faults.BasisFault.{BasisFault}
use Rattle.propagators.specs.declared.faults.BasisFault.TheVariants as basis_fault
use Rattle.propagators.specs.Basis.{Basis, forms_of}
use Rattle.propagators.specs.Combinations.{AreIndependent}
use Rattle.propagators.specs.Denominators.{form_of, image_of}
use Rattle.propagators.specs.Faults.{IsDependence}
use Rattle.propagators.specs.Forms.{Form}
use Rattle.symmetry_maps.specs.declared.faults.MapFault.{MapFault}
use Rattle.symmetry_maps.specs.declared.faults.MapFault.TheVariants as map_fault
use Rattle.symmetry_maps.specs.Symmetry.{IsSymmetry, IsFirstAtFault}
use Rattle.input_schema.specs.declared.faults.File.TheVariants as file
use Rattle.input_schema.specs.declared.faults.InputFault.{InputFault}
use Rattle.input_schema.specs.declared.faults.InputKind.TheVariants.{NotAPermutation}
use Rattle.kinematics_schema.specs.declared.content.Rule as schema
use Rattle.kinematics_schema.specs.declared.content.Kinematics.{Kinematics}
use Rattle.family_schema.specs.declared.content.Momenta.{Momenta}
use Rattle.family_schema.specs.declared.content.Momenta.TheVariants.{Square, Product}
use Rattle.family_schema.specs.declared.content.Propagator.{Propagator}
use Rattle.family_schema.specs.declared.content.Symmetry.{Symmetry as Map}
use Rattle.family_schema.specs.declared.content.Family.{Family}
use Rattle.family_schema.specs.Scope.{independent_count}
use Rattle.job_schema.specs.declared.points.Setting.{Setting}
use Rattle.job_point.specs.declared.faults.PlanError.{PlanError}
use Rattle.job_point.specs.declared.faults.PlanError.TheVariants as plan_error
use Rattle.job_point.specs.declared.faults.Singular.TheVariants as singular
use Rattle.job_point.specs.declared.bases.FamilyAt.{FamilyAt}
use Rattle.job_point.specs.declared.bases.FamiliesAt.{FamiliesAt}
use Rattle.job_point.specs.declared.points.AtPoint.{AtPoint}
use Rattle.job_point.specs.Steps.{Step, Is, Then, Each}
use Rattle.job_point.specs.Values.{IsValueAt, AreValuesAt}

-- ---- the rules

-- a rule with its value
abbrev pub IsRuleAt : ℕ → List ℕ → schema.Rule → Step Rule
IsRuleAt p residues rule =
    Then (IsValueAt p residues file.Kinematics rule.line rule.value) (λ value. Is (Ok (record { left = rule.left; right = rule.right; value = value })))

abbrev pub AreRulesAt : ℕ → List ℕ → List schema.Rule → Step (List Rule)
AreRulesAt p residues rules = Each (λ found rule. IsRuleAt p residues rule) [] rules

-- what a fault of the rules is here
abbrev pub point_error_of : PointFault → PlanError
point_error_of (point_fault.RulesClash multipliers residue) = plan_error.RulesClash multipliers residue
point_error_of (point_fault.RulesOpen vector) = plan_error.Singular (singular.RulesOpen vector)
point_error_of (point_fault.Composite fault) = plan_error.Composite fault
point_error_of point_fault.OutOfMemory = plan_error.OutOfMemory

-- the vector shows that the rules leave a product open, so that no table is the only one that meets them
pub record LeaveOpen (p externals : ℕ) (rules : List Rule) (vector : List ℕ) : Type 0 where
  pub shown : IsRulesOpen p externals rules vector
  pub none : (products : List ℕ) → IsPointOf p externals rules products → ⊥

-- why rules have no point, or none was found
abbrev pub HasPointFault : ℕ → ℕ → List Rule → PlanError → Type 0
HasPointFault p externals rules (plan_error.RulesClash multipliers residue) = IsRulesClash p externals rules multipliers residue
HasPointFault p externals rules (plan_error.Singular (singular.RulesOpen vector)) = LeaveOpen p externals rules vector
HasPointFault p externals rules (plan_error.Composite fault) = IsProperDivisor p fault.divisor
HasPointFault p externals rules _ = ⊥

-- the point is the only one that meets the rules
pub record IsOnlyPoint (p externals : ℕ) (rules : List Rule) (point : Point) : Type 0 where
  pub modulus : point.modulus ≡ p
  pub externals_are : point.externals ≡ externals
  pub products : IsPointOf p externals rules point.products

abbrev pub IsPointFor : ℕ → ℕ → List Rule → Step Point
IsPointFor p externals rules (Ok point) = IsOnlyPoint p externals rules point
IsPointFor p externals rules (Err e) = HasPointFault p externals rules e

-- the values of the rules in order, and then their point
abbrev pub IsPointAt : ℕ → List ℕ → Kinematics → Step Point
IsPointAt p residues kinematics = Then (AreRulesAt p residues kinematics.rules) (IsPointFor p (independent_count kinematics))

-- ---- the families

-- the denominator of these momenta and this mass
abbrev pub denominator_of : Momenta → ℕ → Denominator
denominator_of (Square momentum) mass = denominator.Square momentum mass
denominator_of (Product left right) mass = denominator.Bilinear left right mass

abbrev pub IsDenominatorAt : ℕ → List ℕ → Propagator → Step Denominator
IsDenominatorAt p residues propagator =
    Then (IsValueAt p residues file.Families propagator.line propagator.mass) (λ mass. Is (Ok (denominator_of propagator.momenta mass)))

abbrev pub AreDenominatorsAt : ℕ → List ℕ → List Propagator → Step (List Denominator)
AreDenominatorsAt p residues propagators = Each (λ found propagator. IsDenominatorAt p residues propagator) [] propagators

-- what a fault of the denominators of the family with this number is here
abbrev pub basis_error_of : ℕ → BasisFault → PlanError
basis_error_of family (basis_fault.NotBasis vector) = plan_error.Singular (singular.NotBasis family vector)
basis_error_of family (basis_fault.Composite fault) = plan_error.Composite fault
basis_error_of family basis_fault.OutOfMemory = plan_error.OutOfMemory

-- why the denominators of the family with this number are no basis, or none was found
abbrev pub HasBasisFault : ℕ → Point → ℕ → ℕ → List Denominator → PlanError → Type 0
HasBasisFault p point number loops denominators (plan_error.Singular (singular.NotBasis family vector)) =
    (family ≡ number) × IsDependence p (map (form_of loops point) denominators) vector
HasBasisFault p point number loops denominators (plan_error.Composite fault) = IsProperDivisor p fault.divisor
HasBasisFault p point number loops denominators _ = ⊥

abbrev pub IsBasisFor : ℕ → Point → ℕ → ℕ → List Denominator → Step Basis
IsBasisFor p point number loops denominators (Ok basis) =
    (basis ≡ record { loops = loops; denominators = denominators; point = point }) × AreIndependent p (map (form_of loops point) denominators)
IsBasisFor p point number loops denominators (Err e) = HasBasisFault p point number loops denominators e

-- the forms of the denominators after each loop momentum was replaced by its image
abbrev pub images_of : Basis → Map → List Form
images_of basis symmetry = map (image_of basis.loops basis.point symmetry.images) basis.denominators

-- what a fault of the map on this line is here
abbrev pub map_error_of : ℕ → MapFault → PlanError
map_error_of line (map_fault.NotAPermutation denominator) = plan_error.Input (record { file = file.Families; line = line; kind = NotAPermutation })
map_error_of line map_fault.OutOfMemory = plan_error.OutOfMemory

-- some denominator is the first at fault, so that the map permutes them not: it is refused with its line
pub record IsRefusedMap (basis : Basis) (symmetry : Map) (fault : InputFault) : Type 0 where
  pub denominator : ℕ
  pub first : IsFirstAtFault (images_of basis symmetry) (forms_of basis) denominator
  pub told : fault ≡ record { file = file.Families; line = symmetry.line; kind = NotAPermutation }

-- why the map is no symmetry
abbrev pub HasMapFault : Basis → Map → PlanError → Type 0
HasMapFault basis symmetry (plan_error.Input fault) = IsRefusedMap basis symmetry fault
HasMapFault basis symmetry _ = ⊥

-- the permutation of the denominators that a map of the loop momenta makes
abbrev pub IsSymmetryAt : Basis → Map → Step (List ℕ)
IsSymmetryAt basis symmetry (Ok places) = IsSymmetry (images_of basis symmetry) (forms_of basis) places
IsSymmetryAt basis symmetry (Err e) = HasMapFault basis symmetry e

abbrev pub AreSymmetriesAt : Basis → List Map → Step (List (List ℕ))
AreSymmetriesAt basis symmetries = Each (λ found symmetry. IsSymmetryAt basis symmetry) [] symmetries

-- the family with this number: its masses in order, then its basis, and then its symmetries in order
abbrev pub IsFamilyAt : ℕ → List ℕ → Point → ℕ → Family → Step FamilyAt
IsFamilyAt p residues point number family =
    Then (AreDenominatorsAt p residues family.propagators) (λ denominators.
    Then (IsBasisFor p point number (length family.loops) denominators) (λ basis.
    Then (AreSymmetriesAt basis family.symmetries) (λ symmetries.
    Is (Ok (record { basis = basis; symmetries = symmetries })))))

abbrev pub split : List FamilyAt → FamiliesAt
split found = record { bases = map (λ at. at.basis) found; symmetries = map (λ at. at.symmetries) found }

-- the families in order, numbered from 0
abbrev pub AreFamiliesAt : ℕ → List ℕ → Point → List Family → Step FamiliesAt
AreFamiliesAt p residues point families =
    Then (Each (λ found family. IsFamilyAt p residues point (length found) family) [] families) (λ found. Is (Ok (split found)))

-- ---- all of it

-- the values of the invariants and of the dimension, then the rules and their point, and then the families
abbrev pub IsAtPoint : ℕ → Kinematics → List Family → List Setting → Step AtPoint
IsAtPoint p kinematics families settings =
    Then (AreValuesAt p kinematics.symbol settings) (λ values.
    Then (IsPointAt p values.residues kinematics) (λ point.
    Then (AreFamiliesAt p values.residues point families) (λ found.
    Is (Ok (record { modulus = p; dimension = values.dimension; bases = found.bases; symmetries = found.symmetries })))))

-- the basis is one of the family, at a point of so many external momenta
pub record IsBasisOf (p externals : ℕ) (family : Family) (basis : Basis) : Type 0 where
  pub loops : basis.loops ≡ length family.loops
  pub width : length basis.denominators ≡ family.width
  pub modulus : basis.point.modulus ≡ p
  pub externals_are : basis.point.externals ≡ externals

-- each symmetry has a place for each denominator
abbrev pub AreSymmetriesOf : Basis → List (List ℕ) → Type 0
AreSymmetriesOf basis symmetries = All (λ places. length places ≡ length basis.denominators) symmetries
