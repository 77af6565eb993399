-- What the words of a call ask for. The project's own.
use Rattle.std.specs.Prelude.{◌≡◌, ◌≢◌, ⊤, Bool, true, false, not, ◌&&◌, List, map, None, is_some}
use Rattle.yaml_text.specs.Lines.{Bytes}
use Rattle.job_schema.specs.Overridden.{Override}
use Rattle.command_line.specs.Command.{rows_at}
use Rattle.command_line.specs.Request.{Asked, Given, Placed, asked, given_of, positionals, seen_word}
use Rattle.command_line.specs.Request as line
use Rattle.command_line.specs.declared.request.JobRequest.{JobRequest}
use Rattle.kira_app.specs.declared.status.Status.{Status}
use Rattle.kira_app.specs.declared.status.Status.TheVariants as status
use Rattle.kira_app.specs.declared.words.ServedJob.{ServedJob}
use Rattle.kira_app.specs.declared.words.Wanted.{Wanted}
use Rattle.kira_app.specs.declared.words.Wanted.TheVariants as wanted

-- the usage line, a call of the program, or neither
unfoldable pub asks : List Bytes → Asked
asks words = asked words

abbrev pub AsksUsage : List Bytes → Type 0
AsksUsage words = asks words ≡ line.usage

abbrev pub AsksHelp : List Bytes → Type 0
AsksHelp words = asks words ≡ line.help

abbrev pub AsksCall : List Bytes → Type 0
AsksCall words = asks words ≡ line.call

-- the name of the job file, of words that have one
unfoldable pub job_file : List Bytes → Bytes
job_file words = line.job_file_of (positionals (rows_at words))

abbrev pub override_of : Placed → Override
override_of word = record { place = word.place; text = word.text }

-- the words behind the job file, each with its place among all words
unfoldable pub overrides_of : List Bytes → List Override
overrides_of words = map override_of (line.overrides_of words (positionals (rows_at words)))

-- a call without a sample and without a save is served
abbrev pub is_plain : Given → Bool
is_plain given = not (is_some given.sample) && not (is_some given.save)

unfoldable pub is_served : List Bytes → Bool
is_served words = is_plain (given_of (rows_at words))

-- the words ask for a job that is served
abbrev pub AsksJob : List Bytes → Type 0
AsksJob words = AsksCall words × (is_served words ≡ true)

-- the words ask for a save or a sample, which aren't served
abbrev pub AsksUnserved : List Bytes → Type 0
AsksUnserved words = AsksCall words × (is_served words ≡ false)

-- ---- what is made of them

-- the words ask for a job that is served, and these are its file and its overrides
pub record IsServedJob (words : List Bytes) (asks_for : ServedJob) : Type 0 where
  pub called : AsksCall words
  pub served : is_served words ≡ true
  pub job_file : asks_for.job_file.now ≡ job_file words
  pub overrides : asks_for.overrides.items ≡ overrides_of words

-- the words are answered with this status, for which no file is read
abbrev pub AreAnswered : List Bytes → Status → Type 0
AreAnswered words status.Usage = AsksUsage words
AreAnswered words status.NotYet = AsksUnserved words
AreAnswered words status.OutOfMemory = ¬ (AsksHelp words)
AreAnswered words other = ⊥

abbrev pub IsWanted : List Bytes → Wanted → Type 0
IsWanted words wanted.Help = AsksHelp words
IsWanted words (wanted.Job asks_for) = IsServedJob words asks_for
IsWanted words (wanted.Refused s) = AreAnswered words s

-- what is made of a job that was asked for
abbrev pub IsServing : JobRequest → Wanted → Type 0
IsServing request wanted.Help = ⊥
IsServing request (wanted.Job asks_for) = (request.save ≡ None) × (asks_for.job_file.now ≡ request.job_file.now)
    × (asks_for.overrides.items ≡ map override_of (map seen_word request.overrides.items))
IsServing request (wanted.Refused status.NotYet) = request.save ≢ None
IsServing request (wanted.Refused status.OutOfMemory) = ⊤
IsServing request (wanted.Refused other) = ⊥
