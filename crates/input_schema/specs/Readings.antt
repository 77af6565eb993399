-- What a part of a file is read as: a value, or its first fault. The project's own.
use Rattle.std.specs.Prelude.{◌≡◌, ℕ, List, [], ◌∷◌, ◌++◌, Option, Some, None, Result, Ok, Err}
use denote.Ref.{Bor}
use Rattle.input_schema.specs.declared.faults.File.{File}
use Rattle.input_schema.specs.declared.faults.InputKind.{InputKind}
use Rattle.input_schema.specs.declared.faults.InputKind.TheVariants.{Missing}
use Rattle.input_schema.specs.declared.faults.InputFault.{InputFault}
use Rattle.input_schema.specs.declared.faults.SchemaError.{SchemaError}
use Rattle.input_schema.specs.declared.faults.SchemaError.TheVariants.{Fault, OutOfMemory}

-- a value, or the first fault
abbrev pub Outcome : Type 0 → Type 0
Outcome A = Result A InputFault

abbrev pub refuse : {A : Type 0} → File → ℕ → InputKind → Outcome A
refuse file line kind = Err (record { file = file; line = line; kind = kind })

-- where the outcome of each part is determined by a function
infixl 10 ◌>>=◌
abbrev pub ◌>>=◌ : {A B : Type 0} → Outcome A → (A → Outcome B) → Outcome B
Ok a >>= f = f a
Err e >>= f = Err e

-- the items of a list, read from left to right up to the first fault, behind those that were read before
abbrev pub each : {N A : Type 0} → (N → Outcome A) → List A → List N → Outcome (List A)
each read found [] = Ok found
each read found (item ∷ items) = read item >>= (λ a. each read (found ++ a ∷ []) items)

-- A reading says which outcome a part has. That it has one at most is a law of each reading.
abbrev pub Reading : Type 0 → Type 1
Reading A = Outcome A → Type 0

-- the outcome is this one
abbrev pub Is : {A : Type 0} → Outcome A → Reading A
Is outcome r = outcome ≡ r

-- what follows a value; a fault stays
abbrev pub After : {A B : Type 0} → Outcome A → (A → Reading B) → Reading B
After (Ok a) next r = next a r
After (Err f) next r = r ≡ Err f

-- one part, and then the parts that follow its value
pub record Then {A B : Type 0} (first : Reading A) (next : A → Reading B) (r : Outcome B) : Type 0 where
  pub outcome : Outcome A
  pub is : first outcome
  pub after : After outcome next r

-- a part that may be missing, and then has this value
abbrev pub IfGiven : {N A : Type 0} → Option N → A → (N → Reading A) → Reading A
IfGiven None missing read = Is (Ok missing)
IfGiven (Some node) missing read = read node

-- The nodes of a list in order, where the reading of each knows what was found before it.
abbrev pub Each : {N A : Type 0} → (List A → N → Reading A) → List A → List N → Reading (List A)
Each read found [] r = r ≡ Ok found
Each read found (node ∷ nodes) r = Then (read found node) (λ a. Each read (found ++ a ∷ []) nodes) r

-- What a call answers: the value or the fault of its reading, or that memory was refused.
abbrev pub Refuses : {A : Type 0} → Reading A → SchemaError → Type 0
Refuses reading (Fault f) = reading (Err f)
Refuses reading OutOfMemory = Unit {0}

abbrev pub Answers : {A : Type 0} → Reading A → Result A SchemaError → Type 0
Answers reading (Ok a) = reading (Ok a)
Answers reading (Err e) = Refuses reading e

-- the same where the outcome is determined by a function
abbrev pub Gives : {A : Type 0} → Outcome A → Result A SchemaError → Type 0
Gives outcome = Answers (Is outcome)

-- an answer that lends a value, as the value
abbrev pub lent : {A E : Type 0} → Result (Bor A) E → Result A E
lent (Ok a) = Ok a.now
lent (Err e) = Err e

abbrev pub lent_pair : {A B E : Type 0} → Result (Bor A × Bor B) E → Result (A × B) E
lent_pair (Ok p) = Ok (p.0.now, p.1.now)
lent_pair (Err e) = Err e

-- A reading has one outcome at most.
abbrev pub IsSingle : {A : Type 0} → Reading A → Type 0
IsSingle reading = (r q : Outcome _) → reading r → reading q → r ≡ q

-- ---- files that are missing

-- the kind is another than that the file is missing
abbrev pub IsNotMissing : InputKind → Type 0
IsNotMissing Missing = ⊥
IsNotMissing other = Unit {0}

-- no fault of the reading is that the file is missing
abbrev pub NeverSaysMissing : {A : Type 0} → Reading A → Type 0
NeverSaysMissing reading = (fault : InputFault) → reading (Err fault) → IsNotMissing fault.kind
