-- When two answers of one step say the same. The project's own.
use Rattle.std.specs.Prelude.{◌≡◌, ◌⊎◌, ℕ, List, Ok, Err}
use Rattle.matrix_elimination.specs.Fault.{IsProperDivisor}
use Rattle.job_point.specs.declared.faults.PlanError.{PlanError}
use Rattle.job_point.specs.declared.faults.PlanError.TheVariants.{Singular, RulesClash, Composite}
use Rattle.job_point.specs.declared.faults.Singular.TheVariants.{RulesOpen, NotBasis}
use Rattle.job_point.specs.Steps.{Answer, Step}

-- the two faults are equal, but for the vector or the multipliers that show them
abbrev pub IsSameFault : PlanError → PlanError → Type 0
IsSameFault (Singular (RulesOpen vector)) e = (other : List ℕ) × (e ≡ Singular (RulesOpen other))
IsSameFault (Singular (NotBasis family vector)) e = (other : List ℕ) × (e ≡ Singular (NotBasis family other))
IsSameFault (RulesClash multipliers residue) e = (others : List ℕ) × (other : ℕ) × (e ≡ RulesClash others other)
IsSameFault one e = e ≡ one

-- the two answers have the same value, or the same fault
abbrev pub IsSameAnswer : {A : Type 0} → Answer A → Answer A → Type 0
IsSameAnswer (Ok a) r = r ≡ Ok a
IsSameAnswer (Err e) r = (f : PlanError) × (r ≡ Err f) × IsSameFault e f

-- the answer names a divisor of the modulus, which a prime doesn't have
abbrev pub NamesDivisor : {A : Type 0} → ℕ → Answer A → Type 0
NamesDivisor p (Err (Composite fault)) = IsProperDivisor p fault.divisor
NamesDivisor p r = ⊥

-- Any two answers of the step are the same, but where one of them names a divisor of the modulus.
abbrev pub Agrees : {A : Type 0} → ℕ → Step A → Type 0
Agrees {A} p step = (r q : Answer A) → step r → step q → IsSameAnswer r q ⊎ (NamesDivisor p r ⊎ NamesDivisor p q)

-- A composite modulus is named by a divisor between 1 and the modulus alone.
abbrev pub NamesDivisorsAlone : {A : Type 0} → ℕ → Step A → Type 0
NamesDivisorsAlone {A} p step = (fault : _) → step (Err (Composite fault)) → IsProperDivisor p fault.divisor
