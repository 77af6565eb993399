-- What a definition of the profile answers: a value, or the first fault.
use Rattle.std.specs.Prelude.{◌≡◌, ◌≢◌, ℕ, Result, Ok, Err}
use Rattle.yaml_text.specs.declared.fault.YamlKind.{YamlKind}
use Rattle.yaml_text.specs.declared.fault.YamlError.{YamlError}
use Rattle.yaml_text.specs.declared.fault.YamlError.TheVariants.{Fault, OutOfMemory}

-- No definition answers that memory was refused: `refuse` is the only failure that they know.
abbrev pub Outcome : Type 0 → Type 0
Outcome A = Result A YamlError

abbrev pub refuse : {A : Type 0} → ℕ → YamlKind → Outcome A
refuse line kind = Err (Fault (record { line = line; kind = kind }))

infixl 10 ◌>>=◌
abbrev pub ◌>>=◌ : {A B : Type 0} → Outcome A → (A → Outcome B) → Outcome B
Ok a >>= f = f a
Err e >>= f = Err e

-- What a call answers: the value or the fault of its definition, or that memory was refused.
abbrev pub Gives : {A : Type 0} → Outcome A → Result A YamlError → Type 0
Gives outcome (Ok a) = outcome ≡ Ok a
Gives outcome (Err e) = e ≢ OutOfMemory → outcome ≡ Err e
