-- The words that override values of the numeric point, and the point that comes of it. The project's own.
use Rattle.std.specs.Prelude.{ℕ, ◌+◌, Bool, not, ◌||◌, if◌then◌else◌, ◌==◌, List, [], ◌∷◌, ◌++◌, length, take, drop, codes, slice_set, Option, Some, None, Ok}
use Rattle.std.specs.List.{list_any, prefix_len}
use Rattle.std.specs.Str.{bytes_eq}
use Rattle.yaml_text.specs.Lines.{Bytes}
use Rattle.text_tokens.specs.Names.{is_among}
use Rattle.rational_expressions.specs.Values.{place_of}
use Rattle.input_schema.specs.declared.faults.File.TheVariants.{Words, Jobs}
use Rattle.input_schema.specs.declared.faults.InputKind.TheVariants.{NoValue, BadOverride, UnknownName, DuplicateName}
use Rattle.input_schema.specs.Readings.{Outcome, refuse, ◌>>=◌, each}
use Rattle.job_schema.specs.declared.points.Setting.{Setting}
use Rattle.job_schema.specs.declared.points.PointInput.{PointInput}
use Rattle.job_schema.specs.declared.points.NumericPoint.{NumericPoint}
use Rattle.job_schema.specs.Overridden.{Override}
use Rattle.job_schema.specs.Ratios.{ratio, prime}

-- how many bytes stand before the first equals sign
abbrev pub name_length : Bytes → ℕ
name_length text = prefix_len (λ b. not (b == 61)) text

-- what stands before the first equals sign, and what stands behind it
abbrev pub name_in : Override → Bytes
name_in word = take (name_length word.text) word.text

abbrev pub value_in : Override → Bytes
value_in word = drop (name_length word.text + 1) word.text

-- the word gives a value to a name that an earlier word gave one to
abbrev pub is_repeated : List Override → Bytes → Bool
is_repeated earlier name = list_any (λ word. bytes_eq (name_in word) name) earlier

abbrev pub with_setting : List Bytes → PointInput → Override → Outcome PointInput
with_setting names point word =
    ratio Words word.place (value_in word) >>= (λ r.
    Ok (record point { settings = slice_set point.settings (place_of names (name_in word)) (Some (record { file = Words; line = word.place; ratio = r })) }))

abbrev pub with_prime : PointInput → Override → Outcome PointInput
with_prime point word = prime Words word.place (value_in word) >>= (λ p. Ok (record point { prime = Some p }))

abbrev pub with_value : List Bytes → PointInput → Override → Outcome PointInput
with_value names point word =
    if bytes_eq (name_in word) (codes "prime") then with_prime point word else with_setting names point word

-- the name of a parameter that may have a value
abbrev pub is_parameter : List Bytes → Bytes → Bool
is_parameter names name = bytes_eq name (codes "prime") || is_among names name

abbrev pub with_name : List Bytes → List Override → PointInput → Override → Outcome PointInput
with_name names earlier point word =
    if is_parameter names (name_in word)
    then (if is_repeated earlier (name_in word) then refuse Words word.place DuplicateName else with_value names point word)
    else refuse Words word.place UnknownName

-- the point with the value of one word: NAME=VALUE for a parameter that no earlier word names
abbrev pub with_word : List Bytes → List Override → PointInput → Override → Outcome PointInput
with_word names earlier point word =
    if name_length word.text == length word.text then refuse Words word.place BadOverride else with_name names earlier point word

-- the point with the values of all words, one after another
abbrev pub with_words : List Bytes → List Override → PointInput → List Override → Outcome PointInput
with_words names earlier point [] = Ok point
with_words names earlier point (word ∷ words) = with_word names earlier point word >>= (λ p. with_words names (earlier ++ word ∷ []) p words)

abbrev pub given : {A : Type 0} → ℕ → Option A → Outcome A
given line None = refuse Jobs line NoValue
given line (Some a) = Ok a

abbrev pub given_settings : ℕ → List (Option Setting) → Outcome (List Setting)
given_settings line settings = each (given line) [] settings

-- the point whose prime and parameters all have a value
abbrev pub settled : PointInput → Outcome NumericPoint
settled point = given point.line point.prime >>= (λ p. given_settings point.line point.settings >>= (λ found. Ok (record { prime = p; settings = found })))

-- The numeric point: the values of the file, those of the words in their stead, and none missing.
abbrev pub numeric_point : List Bytes → PointInput → List Override → Outcome NumericPoint
numeric_point names point words = with_words names [] point words >>= settled
