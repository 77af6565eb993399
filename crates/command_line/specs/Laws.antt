-- What the definitions say of words without options. The project's own.
use Rattle.std.specs.Prelude.{◌≡◌, ◌<◌, ◌^◌, ⊤, ℕ, ◌+◌, List, [], ◌∷◌, None, length, codes}
use Rattle.clap.specs.Lexer.{strip_byte}
use Rattle.clap.specs.Walk.{Text}
use Rattle.command_line.specs.Command.{faults_at, rows_at}
use Rattle.command_line.specs.Places.{places}
use Rattle.command_line.specs.Request.{Given, given_of, overrides_of, positionals}

-- the word doesn't begin with a hyphen
abbrev pub IsNoOption : Text → Type 0
IsNoOption word = strip_byte 45 word ≡ None

abbrev pub AreNoOptions : List Text → Type 0
AreNoOptions [] = ⊤
AreNoOptions (word ∷ rest) = IsNoOption word × AreNoOptions rest

-- no option is given
abbrev pub none_given : Given
none_given = record { parallel = None; save = None; save_limit = None; units = None; sample = None }

-- the places from this one on
abbrev pub numbered : ℕ → List Text → List ℕ
numbered place [] = []
numbered place (word ∷ rest) = place ∷ numbered (place + 1) rest

-- Words without options are taken as they stand: the first is the job file, and the others are its overrides.
abbrev pub PlainWordsStand : Type 0
PlainWordsStand = (word : Text) (rest : List Text) → AreNoOptions (word ∷ rest) → length (word ∷ rest) < 2 ^ 31
    → (faults_at (word ∷ rest) ≡ []) × (positionals (rows_at (word ∷ rest)) ≡ word ∷ rest) × (given_of (rows_at (word ∷ rest)) ≡ none_given)
    × (places (word ∷ rest) ≡ numbered 1 (word ∷ rest))

-- `--` ends the options and is no positional: of `-- jobs.yaml d=2` the override is the third word.
abbrev pub with_dashes : List Text
with_dashes = codes "--" ∷ codes "jobs.yaml" ∷ codes "d=2" ∷ []

abbrev pub DashesEndOptions : Type 0
DashesEndOptions = (faults_at with_dashes ≡ []) × (positionals (rows_at with_dashes) ≡ codes "jobs.yaml" ∷ codes "d=2" ∷ [])
    × (given_of (rows_at with_dashes) ≡ none_given)
    × (overrides_of with_dashes (positionals (rows_at with_dashes)) ≡ record { place = 3; text = codes "d=2" } ∷ [])
