-- The one simple command by which the words of a call are read. The project's own; what a command makes of words is
-- the function of them that clap states.
use Rattle.std.specs.Prelude.{ℕ, List, Some, true, codes}
use Rattle.clap.specs.Lexer.{usize_max}
use Rattle.clap.specs.Walk.{Row, Rule, Text}
use Rattle.clap.specs.Simple.{App, matches_of, new_app, new_rule, on_top, with_rule}
use Rattle.clap.specs.Kinds.{Kinds}
use Rattle.clap.specs.Faults.{fault_of}
use Rattle.clap.specs.declared.builder.action.ArgAction.TheVariants.{Append}
use Rattle.clap.specs.declared.builder.value_parser.ValueParser.TheVariants.{Unsigned}

-- an option whose value is a number from the one to the other
abbrev pub number_option : Text → ℕ → ℕ → Rule
number_option name low high = record (new_rule name) { long = Some name; parser = Some (Unsigned low high) }

abbrev pub parallel : Rule
parallel = record (number_option (codes "parallel") 1 64) { short = Some 112 }

abbrev pub save : Rule
save = record (new_rule (codes "save")) { long = Some (codes "save") }

abbrev pub save_limit : Rule
save_limit = number_option (codes "save-limit") 64 4294967296

abbrev pub units : Rule
units = number_option (codes "units") 1 1000000000

abbrev pub sample : Rule
sample = number_option (codes "sample") 2 100

-- the job file and the overrides behind it: a positional that takes any number of words
abbrev pub words : Rule
words = record (new_rule (codes "words")) { action = Some Append; range = Some (record { start_inclusive = 1; end_inclusive = usize_max }) }

-- The words of a call don't have the program's name, and there is no option for help.
abbrev pub bare : App
bare = on_top (λ top. record top { no_binary_name = true; disable_help_flag = true }) (new_app (codes "kira"))

-- with the options of a job's run
abbrev pub with_save : App
with_save = with_rule (with_rule (with_rule bare parallel) save) save_limit

abbrev pub command : App
command = with_rule (with_rule (with_rule with_save units) sample) words

-- the kinds of error that clap says the command gives at the words: none where it takes them
unfoldable pub faults_at : List Text → Kinds
faults_at words = fault_of command words

-- the matches that clap says the command has at the words, where it takes them
unfoldable pub rows_at : List Text → List Row
rows_at words = matches_of command words
