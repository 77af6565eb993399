-- Steps in order, of which the first that has a fault is the last. The project's own.
use Rattle.std.specs.Prelude.{◌≡◌, List, [], ◌∷◌, ◌++◌, Result, Ok, Err}
use Rattle.input_schema.specs.declared.faults.InputFault.{InputFault}
use Rattle.input_schema.specs.Readings.{IsNotMissing}
use Rattle.job_point.specs.declared.faults.PlanError.{PlanError}
use Rattle.job_point.specs.declared.faults.PlanError.TheVariants.{Input, OutOfMemory}

-- ---- steps with any faults: each says which answers, values or faults, it may have

-- the answer is this one
abbrev pub Is : {E A : Type 0} → Result A E → Result A E → Type 0
Is answer r = answer ≡ r

-- what follows a value; a fault stays
abbrev pub After : {E A B : Type 0} → Result A E → (A → Result B E → Type 0) → Result B E → Type 0
After (Ok a) next r = next a r
After (Err e) next r = r ≡ Err e

-- one step, and then those that follow its value
pub record Then {E A B : Type 0} (first : Result A E → Type 0) (next : A → Result B E → Type 0) (r : Result B E) : Type 0 where
  pub answer : Result A E
  pub is : first answer
  pub after : After answer next r

-- The items of a list in order, where the step of each knows what was found before it.
abbrev pub Each : {E N A : Type 0} → (List A → N → Result A E → Type 0) → List A → List N → Result (List A) E → Type 0
Each step found [] r = r ≡ Ok found
Each step found (item ∷ items) r = Then (step found item) (λ a. Each step (found ++ a ∷ []) items) r

-- ---- the steps of a plan

-- a value, or a fault
abbrev pub Answer : Type 0 → Type 0
Answer A = Result A PlanError

abbrev pub Step : Type 0 → Type 1
Step A = Answer A → Type 0

-- What a call answers: the value or the fault of its step, or that memory was refused.
abbrev pub Refuses : {A : Type 0} → Step A → PlanError → Type 0
Refuses step OutOfMemory = Unit {0}
Refuses step e = step (Err e)

abbrev pub Meets : {A : Type 0} → Step A → Step A
Meets step (Ok a) = step (Ok a)
Meets step (Err e) = Refuses step e

-- A step has one value at most.
abbrev pub IsSingle : {A : Type 0} → Step A → Type 0
IsSingle {A} step = (one other : A) → step (Ok one) → step (Ok other) → one ≡ other

-- no fault of the step is that a file is missing
abbrev pub NeverSaysMissing : {A : Type 0} → Step A → Type 0
NeverSaysMissing step = (fault : InputFault) → step (Err (Input fault)) → IsNotMissing fault.kind
