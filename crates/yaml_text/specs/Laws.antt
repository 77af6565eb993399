-- What laws say of readings.
use Rattle.std.specs.Prelude.{ℕ, Bool, not, ◌&&◌, ◌||◌, ◌==◌, nat_lt, List, [], ◌∷◌, Ok, Err}
use Rattle.std.specs.List.{list_any, list_all}
use Rattle.yaml_text.specs.declared.fault.YamlError.TheVariants.{Fault, OutOfMemory}
use Rattle.yaml_text.specs.Outcomes.{Outcome}
use Rattle.yaml_text.specs.Lines.{Bytes, is_empty}

-- A value or a fault: no definition answers that memory was refused.
abbrev pub IsSettled : {A : Type 0} → Outcome A → Type 0
IsSettled (Ok a) = Unit {0}
IsSettled (Err (Fault f)) = Unit {0}
IsSettled (Err OutOfMemory) = ⊥

-- A byte that means something to the profile, or that no text may hold: below `!`, above `~`, or one of
-- `!`, a double quote, `#`, `%`, `&`, a single quote, `*`, a comma, `-`, `.`, a colon, `>`, `?`, `@`,
-- `[`, a backslash, `]`, a back quote, `{`, a vertical bar and `}`.
abbrev pub special_bytes : List ℕ
special_bytes = 33 ∷ 34 ∷ 35 ∷ 37 ∷ 38 ∷ 39 ∷ 42 ∷ 44 ∷ 45 ∷ 46 ∷ 58 ∷ 62 ∷ 63 ∷ 64 ∷ 91 ∷ 92 ∷ 93 ∷ 96 ∷ 123 ∷ 124 ∷ 125 ∷ []

abbrev pub is_ordinary : ℕ → Bool
is_ordinary b = not (nat_lt b 33 || nat_lt 126 b || list_any (λ s. b == s) special_bytes)

-- some byte, and none that is special
abbrev pub is_word : Bytes → Bool
is_word bytes = not (is_empty bytes) && list_all is_ordinary bytes
