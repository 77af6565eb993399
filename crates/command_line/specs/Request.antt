-- What the words of a call ask for, or that they are refused. The project's own.
use Rattle.std.specs.Prelude.{◌≡◌, ◌≢◌, ⊤, ℕ, ◌^◌, Bool, true, false, not, ◌&&◌, nat_lt, if◌then◌else◌, List, [], ◌∷◌, codes, drop, length, map}
use Rattle.std.specs.Prelude.{Option, Some, None, is_some, option_map, unwrap_or, Result, Ok, Err, MatchOption, slice_get}
use Rattle.std.specs.List.{list_all}
use Rattle.std.specs.Option.{option_map_or}
use Rattle.std.specs.Str.{bytes_eq}
use Rattle.std.specs.Str.Parse.{digits_value, without_leading_plus}
use Rattle.clap.specs.Walk.{Row, Text, all_of, first_of, is_empty}
use Rattle.clap.specs.ValueTests.{is_unsigned_in}
use Rattle.command_line.specs.Command.{faults_at, rows_at}
use Rattle.command_line.specs.Places.{places}
use Rattle.command_line.specs.declared.request.Request.{Request}
use Rattle.command_line.specs.declared.request.Request.TheVariants as request
use Rattle.command_line.specs.declared.request.JobRequest.{JobRequest}
use Rattle.command_line.specs.declared.request.SaveRequest.{SaveRequest}
use Rattle.command_line.specs.declared.request.PlacedWord.{PlacedWord}
use Rattle.command_line.specs.declared.request.WordsFault.{WordsFault}
use Rattle.command_line.specs.declared.request.WordsFault.TheVariants as fault
use Rattle.command_line.specs.declared.options.Options.{Options}

-- ---- what the command's matches say

-- the number that a text writes, in decimal digits
abbrev pub number_value : Text → ℕ
number_value text = digits_value 10 (without_leading_plus text)

-- the option isn't there, or its text is a number from the one to the other
abbrev pub is_number : ℕ → ℕ → Text → List Row → Bool
is_number low high id rows = option_map_or (is_unsigned_in low high) (first_of id rows) true

abbrev pub number_of : Text → List Row → Option ℕ
number_of id rows = option_map number_value (first_of id rows)

-- clap has refused every other number already
abbrev pub have_numbers : List Row → Bool
have_numbers rows = is_number 1 64 (codes "parallel") rows
    && (is_number 64 4294967296 (codes "save-limit") rows
    && (is_number 1 1000000000 (codes "units") rows && is_number 2 100 (codes "sample") rows))

-- the values of the options
pub record Given : Type 0 where
  pub parallel : Option ℕ
  pub save : Option Text
  pub save_limit : Option ℕ
  pub units : Option ℕ
  pub sample : Option ℕ

abbrev pub given_of : List Row → Given
given_of rows = record {
  parallel = number_of (codes "parallel") rows;
  save = first_of (codes "save") rows;
  save_limit = number_of (codes "save-limit") rows;
  units = number_of (codes "units") rows;
  sample = number_of (codes "sample") rows;
}

abbrev pub seen_options : Options → Given
seen_options options = record {
  parallel = options.parallel;
  save = option_map (λ text. text.now) options.save;
  save_limit = options.save_limit;
  units = options.units;
  sample = options.sample;
}

-- the job file and the overrides behind it
abbrev pub positionals : List Row → List Text
positionals rows = unwrap_or (all_of (codes "words") rows) []

-- ---- the further conditions

abbrev pub is_short : Text → Bool
is_short word = nat_lt (length word) (2 ^ 31)

abbrev pub are_short : List Text → Bool
are_short words = nat_lt (length words) (2 ^ 31) && list_all is_short words

abbrev pub is_alone : Given → Bool
is_alone given = not (is_some given.save) && (not (is_some given.save_limit) && not (is_some given.units))

-- The name of the save isn't empty; without one there are none of the options that go with it.
abbrev pub has_fitting_save : Given → Bool
has_fitting_save given = option_map_or (λ file. not (is_empty file)) given.save (is_alone given)

-- a sample stands alone, but for the number of threads, and a job has its file
abbrev pub is_fitting : Given → List Text → Bool
is_fitting given texts = if is_some given.sample then is_empty texts && is_alone given
    else not (is_empty texts) && has_fitting_save given

-- What the matches with these positionals have to meet. Each positional is one of the words, and as short.
abbrev pub is_accepted : List Row → List Text → Bool
is_accepted rows texts = have_numbers rows && (list_all is_short texts && is_fitting (given_of rows) texts)

-- ---- what the words ask for

abbrev pub is_help : List Text → Bool
is_help [] = false
is_help (word ∷ []) = bytes_eq word (codes "--help")
is_help (word ∷ next ∷ rest) = false

-- the words are read: clap doesn't refuse them, and the further conditions hold
abbrev pub are_read : List Text → Bool
are_read words = are_short words && (is_empty (faults_at words) && is_accepted (rows_at words) (positionals (rows_at words)))

pub data Asked : Type 0 where
  usage : Asked
  help : Asked
  call : Asked

abbrev pub asked : List Text → Asked
asked words = if is_help words then help else (if are_read words then call else usage)

-- a word behind the job file, with its place among all words
pub record Placed : Type 0 where
  pub place : ℕ
  pub text : Text

abbrev pub placed : List ℕ → List Text → List Placed
placed [] texts = []
placed (place ∷ places) [] = []
placed (place ∷ places) (text ∷ texts) = record { place = place; text = text } ∷ placed places texts

-- the first positional
abbrev pub job_file_of : List Text → Text
job_file_of texts = unwrap_or (slice_get texts 0) []

-- the further positionals, each with its place
abbrev pub overrides_of : List Text → List Text → List Placed
overrides_of words texts = placed (drop 1 (places words)) (drop 1 texts)

-- ---- the answer of a call

abbrev pub seen_word : PlacedWord → Placed
seen_word word = record { place = word.place; text = word.text.now }

abbrev pub is_short_word : PlacedWord → Bool
is_short_word word = is_short word.text.now

-- Without a limit of its own a save has 2^32 bytes.
pub record IsSaveOf (given : Given) (save : SaveRequest) : Type 0 where
  pub file : given.save ≡ Some save.file.now
  pub limit : save.limit ≡ unwrap_or given.save_limit 4294967296
  pub units : save.units ≡ given.units

abbrev pub IsSaveGiven : Given → Option SaveRequest → Type 0
IsSaveGiven given save = MatchOption save (given.save ≡ None) (IsSaveOf given)

pub record IsJobOf (words : List Text) (given : Given) (texts : List Text) (asks : JobRequest) : Type 0 where
  pub job_file : asks.job_file.now ≡ job_file_of texts
  pub overrides : map seen_word asks.overrides.items ≡ overrides_of words texts
  pub short : list_all is_short_word asks.overrides.items ≡ true
  pub parallel : asks.parallel ≡ given.parallel
  pub save : IsSaveGiven given asks.save

abbrev pub IsRequestOf : List Text → Given → List Text → Request → Type 0
IsRequestOf words given texts request.Help = ⊥
IsRequestOf words given texts (request.Job asks) = (given.sample ≡ None) × IsJobOf words given texts asks
IsRequestOf words given texts (request.Sample number parallel) = (given.sample ≡ Some number) × (parallel ≡ given.parallel)

-- The matches with these positionals meet the conditions and ask for this, or they don't meet them.
abbrev pub IsAnswerBy : List Text → List Row → List Text → Result Request WordsFault → Type 0
IsAnswerBy words rows texts (Ok asks) = (is_accepted rows texts ≡ true) × IsRequestOf words (given_of rows) texts asks
IsAnswerBy words rows texts (Err fault.Usage) = is_accepted rows texts ≡ false
IsAnswerBy words rows texts (Err fault.OutOfMemory) = ⊤

-- Memory may be wanting for all words but the one that asks for the usage line.
abbrev pub IsAnswerOf : List Text → Result Request WordsFault → Type 0
IsAnswerOf words (Ok request.Help) = asked words ≡ help
IsAnswerOf words (Ok asks) = (asked words ≡ call) × IsRequestOf words (given_of (rows_at words)) (positionals (rows_at words)) asks
IsAnswerOf words (Err fault.Usage) = asked words ≡ usage
IsAnswerOf words (Err fault.OutOfMemory) = asked words ≢ help
