-- The steps of a run, of which the first that is refused is the last. The project's own.
use Rattle.std.specs.Prelude.{◌≡◌, ℕ, List, [], map, Result, Ok, Err}
use Rattle.std.specs.declared.vec.Vec.{Vec}
use Rattle.input_schema.specs.declared.faults.InputFault.{InputFault}
use Rattle.input_schema.specs.Readings.{Reading}
use Rattle.job_point.specs.declared.faults.PlanError.{PlanError}
use Rattle.job_point.specs.Steps as point
use Rattle.kira_app.specs.declared.status.Status.{Status}
use Rattle.kira_app.specs.declared.status.Status.TheVariants as status
use Rattle.kira_app.specs.declared.refusal.Refusal.{Refusal}

-- a value, or a refusal
abbrev pub Answer : Type 0 → Type 0
Answer A = Result A Refusal

-- a step says which answers it may have; steps in order are those of a plan
abbrev pub Step : Type 0 → Type 1
Step A = Answer A → Type 0

-- ---- steps of the crates below

-- a refusal whose message names nothing but what the status has
abbrev pub plain : Status → Refusal
plain s = record { status = s; name = [] }

-- a reading of the input, whose fault is the refusal
abbrev pub OfReading : {A : Type 0} → Reading A → Step A
OfReading reading (Ok a) = reading (Ok a)
OfReading reading (Err refusal) = (fault : InputFault) × reading (Err fault) × (refusal ≡ plain (status.Input fault))

-- a step of a plan, whose error is the refusal as the function says
abbrev pub OfPlan : {A : Type 0} → (PlanError → Refusal) → point.Step A → Step A
OfPlan told step (Ok a) = step (Ok a)
OfPlan told step (Err refusal) = (e : PlanError) × step (Err e) × (refusal ≡ told e)

-- the answer of a call whose refusal is a status alone
abbrev pub plainly : {A : Type 0} → Result A Status → Answer A
plainly (Ok a) = Ok a
plainly (Err s) = Err (plain s)

-- the bytes of an answer that has them in a vector, or in several
abbrev pub texts_of : {Y Z : Type 0} → Result (Vec (Vec ℕ Y) Z) Refusal → Answer (List (List ℕ))
texts_of (Ok texts) = Ok (map (λ text. text.items) texts.items)
texts_of (Err refusal) = Err refusal

abbrev pub bytes_of : {Z : Type 0} → Result (Vec ℕ Z) Refusal → Answer (List ℕ)
bytes_of (Ok bytes) = Ok bytes.items
bytes_of (Err refusal) = Err refusal
