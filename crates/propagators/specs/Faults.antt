-- Why a family of denominators is refused.
use Rattle.std.specs.Prelude.{◌≡◌, ⊤, ℕ, List, length}
use Rattle.matrix_elimination.specs.declared.elimination.EliminationFault.{EliminationFault}
use Rattle.matrix_elimination.specs.declared.elimination.EliminationFault.TheVariants as elimination_fault
use Rattle.matrix_elimination.specs.Fault.{IsProperDivisor}
use Rattle.matrix_elimination.specs.Vectors.{IsVector, HasLeadingOne}
use Rattle.propagators.specs.declared.faults.BasisFault.{BasisFault}
use Rattle.propagators.specs.declared.faults.BasisFault.TheVariants.{NotBasis, Composite, OutOfMemory}
use Rattle.propagators.specs.Forms.{Form}
use Rattle.propagators.specs.Combinations.{SumToConstant}

-- the forms times the entries of this vector sum to a constant; it isn't zero, and its first entry other than 0 is 1
pub record IsDependence (p : ℕ) (forms : List Form) (vector : List ℕ) : Type 0 where
  pub entries : IsVector p (length forms) vector
  pub leads : HasLeadingOne vector
  pub cancels : SumToConstant p forms vector

-- of memory nothing is said
abbrev pub HasCause : ℕ → List Form → BasisFault → Type 0
HasCause p forms (NotBasis vector) = IsDependence p forms vector
HasCause p forms (Composite fault) = IsProperDivisor p fault.divisor
HasCause p forms OutOfMemory = ⊤

-- what a fault of the elimination is here
abbrev pub IsSameFault : EliminationFault → BasisFault → Type 0
IsSameFault (elimination_fault.Composite fault) e = e ≡ Composite fault
IsSameFault elimination_fault.OutOfMemory e = e ≡ OutOfMemory
