-- The law of what the words and the files ask for. The project's own.
use Rattle.std.specs.Prelude.{◌≡◌, ◌⊎◌, ℕ, List, Ok, Err}
use Rattle.yaml_text.specs.Lines.{Bytes}
use Rattle.field_word.specs.declared.Composite.{Composite}
use Rattle.kira_outside.specs.Held.{Held}
use Rattle.job_plan.specs.Plans.{Plan}
use Rattle.kira_app.specs.declared.status.Status.TheVariants as status
use Rattle.kira_app.specs.declared.refusal.Refusal.{Refusal}
use Rattle.kira_app.specs.Steps.{Answer}
use Rattle.kira_app.specs.Plans.{PlanOf}
use Rattle.kira_app.specs.TopClauses.{IsAlike, IsDivisor, IsDivisorIn, NamesDivisor}

-- the same plan, or statuses that are equal but for the vector or the multipliers that they show
abbrev pub AreAlike : Answer Plan → Answer Plan → Type 0
AreAlike (Ok plan) r = r ≡ Ok plan
AreAlike (Err refusal) r = (other : Refusal) × (r ≡ Err other) × IsAlike refusal.status other.status

-- the answer names a divisor of the modulus that the job names
abbrev pub NamesDivisorIn : List Bytes → Held → Answer Plan → Type 0
NamesDivisorIn words held (Ok plan) = ⊥
NamesDivisorIn words held (Err refusal) = NamesDivisor words held refusal.status

-- Any two answers for the same words and files are alike, but where one of them names a divisor of the modulus.
abbrev pub JobsAgree : Type 0
JobsAgree =
    (words : List Bytes) (held : Held) (r q : Answer Plan) → PlanOf words held r → PlanOf words held q
    → AreAlike r q ⊎ (NamesDivisorIn words held r ⊎ NamesDivisorIn words held q)

-- and such a divisor is one of the modulus
abbrev pub JobsNameDivisors : Type 0
JobsNameDivisors =
    (words : List Bytes) (held : Held) (refusal : Refusal) (fault : Composite) → PlanOf words held (Err refusal) → refusal.status ≡ status.Composite fault
    → IsDivisorIn words fault.divisor held

-- a divisor of the modulus that the job names is one of its plan's modulus
abbrev pub JobsHaveOneModulus : Type 0
JobsHaveOneModulus =
    (words : List Bytes) (held : Held) (plan : Plan) (divisor : ℕ) → PlanOf words held (Ok plan) → IsDivisorIn words divisor held → IsDivisor plan.modulus divisor
