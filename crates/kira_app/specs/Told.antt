-- What is claimed of a step: contents only where the files tell them. The project's own.
use Rattle.std.specs.Prelude.{◌≡◌, ◌⊎◌, ⊤, ℕ, Option, None, MatchOption, Ok, Err}
use Rattle.kira_outside.specs.Faults.{Rose}
use Rattle.kira_outside.specs.Held.{Held}
use Rattle.input_schema.specs.declared.faults.InputKind.TheVariants.{Missing}
use Rattle.kira_app.specs.declared.status.Status.{Status}
use Rattle.kira_app.specs.declared.status.Status.TheVariants as status
use Rattle.kira_app.specs.declared.refusal.Refusal.{Refusal}
use Rattle.kira_app.specs.Steps.{Step}

-- where the content is told, this is true of it
abbrev pub IfTold : Option Held → (Held → Type 0) → Type 0
IfTold held P = MatchOption held ⊤ P

-- What has to hold where a call is refused with a status: of memory nothing, of reading that it failed, and of
-- any other that it is the refusal of a step. Such a call doesn't end well, and writes nothing. The words are read before.
abbrev pub ByStatus : Status → Type 0 → Type 0 → Type 0
ByStatus status.OutOfMemory failed refused = ⊤
ByStatus status.ReadFault failed refused = failed
ByStatus status.Ok failed refused = ⊥
ByStatus status.WriteFault failed refused = ⊥
ByStatus status.Usage failed refused = ⊥
ByStatus status.NotYet failed refused = ⊥
ByStatus other failed refused = refused

-- ---- files that are missing

-- the status is that a file is missing
abbrev pub SaysMissing : Status → Type 0
SaysMissing (status.Input fault) = fault.kind ≡ Missing
SaysMissing other = ⊥

-- the status isn't that a file is missing
abbrev pub IsPresent : Status → Type 0
IsPresent s = ¬ (SaysMissing s)

-- where nothing is told, a file is called missing only if the count rose
abbrev pub IsMissed : Option Held → ℕ → ℕ → Status → Type 0
IsMissed held before now s = held ≡ None → SaysMissing s → Rose before now

-- No load has failed, but for that of a missing file where nothing is told: there it is counted.
abbrev pub IsStill : Option Held → ℕ → ℕ → Status → Type 0
IsStill held before now s = (now ≡ before) ⊎ (SaysMissing s × ((held ≡ None) × Rose before now))

-- ---- a step that reads no file

-- the refusal of the step, or want of memory
abbrev pub Refuses : {A : Type 0} → Step A → Refusal → Type 0
Refuses step refusal = ByStatus refusal.status ⊥ (step (Err refusal))

-- what a call for the step answers
abbrev pub Answers : {A : Type 0} → Step A → Step A
Answers step (Ok a) = step (Ok a)
Answers step (Err refusal) = Refuses step refusal

-- ---- a step that reads files, where the count of faults was the one number before it and is the other behind it

-- the refusal of the step where no load failed, just one fault that was counted, or want of memory
abbrev pub RefusesTold : {A : Type 0} → Option Held → ℕ → ℕ → (Held → Step A) → Refusal → Type 0
RefusesTold held before now step refusal =
    ByStatus refusal.status (Rose before now) (IfTold held (λ files. step files (Err refusal)) × IsStill held before now refusal.status)

-- what a call for the step answers
abbrev pub Tells : {A : Type 0} → Option Held → ℕ → ℕ → (Held → Step A) → Step A
Tells held before now step (Ok a) = IfTold held (λ files. step files (Ok a)) × (now ≡ before)
Tells held before now step (Err refusal) = RefusesTold held before now step refusal

-- ---- the whole of a call

-- how the count of the files stands behind a call that ends so: one more fault for one of reading, and for no other
abbrev pub IsCounted : Option Held → ℕ → ℕ → Status → Type 0
IsCounted held before now status.OutOfMemory = ⊤
IsCounted held before now status.ReadFault = Rose before now
IsCounted held before now s = IsStill held before now s
