-- The exit status and the message of each status. The project's own.
use Rattle.std.specs.Prelude.{◌≡◌, ◌⊎◌, ℕ, List, [], ◌∷◌, ◌++◌, codes, decimal, Option, option_map}
use Rattle.std.specs.List.{concat}
use Rattle.yaml_text.specs.Lines.{Bytes}
use Rattle.kira_outside.specs.Faults.{Rose}
use Rattle.kira_outside.specs.Stream.{Stream, appended}
use Rattle.table_text.specs.Sending.{IsPrefixSent}
use Rattle.sector_forward.specs.declared.fault.ForwardFault.{ForwardFault}
use Rattle.sector_forward.specs.declared.fault.ForwardFault.TheVariants as fault
use Rattle.input_schema.specs.declared.faults.File.{File}
use Rattle.input_schema.specs.declared.faults.File.TheVariants as file
use Rattle.input_schema.specs.declared.faults.InputFault.{InputFault}
use Rattle.input_schema.specs.Kinds.{text_of}
use Rattle.job_point.specs.declared.faults.Excess.{Excess}
use Rattle.job_point.specs.declared.faults.Excess.TheVariants.{Seeds, Selected, Terms}
use Rattle.job_point.specs.declared.faults.Singular as point
use Rattle.job_point.specs.declared.faults.Singular.TheVariants.{ZeroDivisor, RulesOpen, NotBasis}
use Rattle.kira_app.specs.declared.status.Status.{Status}
use Rattle.kira_app.specs.declared.status.Status.TheVariants.{Ok, Usage, NotYet, Input, Singular, RulesClash, Composite, TooMany, ReadFault, WriteFault, OutOfMemory}
use Rattle.kira_app.specs.declared.refusal.Refusal.{Refusal}

abbrev pub exit_code_of : Status → ℕ
exit_code_of Ok = 0
exit_code_of Usage = 2
exit_code_of (Input fault) = 3
exit_code_of (Singular cause) = 4
exit_code_of (RulesClash multipliers residue) = 4
exit_code_of (Composite fault) = 5
exit_code_of (TooMany what count) = 6
exit_code_of ReadFault = 7
exit_code_of WriteFault = 9
exit_code_of OutOfMemory = 14
exit_code_of NotYet = 21

-- ---- what a message says, in pieces that stand one behind the other

-- how a message names a file, where the job file has the one name and the list file at fault the other
abbrev pub file_name : Bytes → Bytes → File → Bytes
file_name job list file.Words = codes "words"
file_name job list file.Jobs = job
file_name job list file.Families = codes "config/integralfamilies.yaml"
file_name job list file.Kinematics = codes "config/kinematics.yaml"
file_name job list (file.List number) = list

-- what is wrong at a line of a file
abbrev pub line_pieces : Bytes → ℕ → Bytes → List Bytes
line_pieces name line text = name ∷ codes ":" ∷ decimal line ∷ codes ": " ∷ text ∷ []

abbrev pub fault_pieces : Bytes → InputFault → List Bytes
fault_pieces name fault = line_pieces name fault.line (text_of fault.kind)

abbrev pub zero_pieces : Bytes → ℕ → ℕ → List Bytes
zero_pieces name line at = name ∷ codes ":" ∷ decimal line ∷ codes ": division by zero at byte " ∷ decimal at ∷ []

abbrev pub dependent_pieces : Bytes → List Bytes
dependent_pieces family = codes "the denominators of family " ∷ family ∷ codes " are dependent" ∷ []

abbrev pub divisor_pieces : ℕ → List Bytes
divisor_pieces divisor = codes "the prime is divisible by " ∷ decimal divisor ∷ []

abbrev pub singular_pieces : Bytes → Bytes → point.Singular → List Bytes
singular_pieces job name (ZeroDivisor file line at) = zero_pieces (file_name job name file) line at
singular_pieces job name (RulesOpen vector) = codes "the scalar product rules leave a product open" ∷ []
singular_pieces job name (NotBasis family vector) = dependent_pieces name

abbrev pub excess_text : Excess → Bytes
excess_text Seeds = codes "more than 131072 seeds"
excess_text Selected = codes "more than 131072 selected integrals"
excess_text Terms = codes "more than 16777216 terms"

-- how the program is called
abbrev pub usage_text : Bytes
usage_text = codes "usage: kira [-p N] [--save=FILE] [--save-limit=N] [--units=N] JOBFILE [NAME=VALUE]... or kira [-p N] --sample=N"

-- what a message says of a status, where the job file has the one name, and the list file at fault, or the
-- family, the other
abbrev pub pieces : Bytes → Bytes → Status → List Bytes
pieces job name Ok = []
pieces job name Usage = usage_text ∷ []
pieces job name (Input fault) = fault_pieces (file_name job name fault.file) fault
pieces job name (Singular cause) = singular_pieces job name cause
pieces job name (RulesClash multipliers residue) = codes "the scalar product rules contradict each other" ∷ []
pieces job name (Composite fault) = divisor_pieces fault.divisor
pieces job name (TooMany what count) = excess_text what ∷ []
pieces job name ReadFault = codes "reading failed" ∷ []
pieces job name WriteFault = codes "writing failed" ∷ []
pieces job name OutOfMemory = codes "out of memory" ∷ []
pieces job name NotYet = codes "not yet" ∷ []

-- a line of the program that says this
abbrev pub line_of : List Bytes → Bytes
line_of pieces = concat (codes "kira: " ∷ (pieces ++ codes "\n" ∷ []))

-- the line that the one word `--help` asks for
abbrev pub usage_line : Bytes
usage_line = line_of (usage_text ∷ [])

-- The line that is written to the error stream, where the job file has this name.
abbrev pub message_text : Bytes → Refusal → Bytes
message_text job refusal = line_of (pieces job refusal.name refusal.status)

-- the text was written behind what was there, or a prefix of it where the count of faults rose
abbrev pub IsToldOf : Bytes → Option Stream → Option Stream → ℕ → ℕ → Type 0
IsToldOf text before after faults faults_after =
    (after ≡ option_map (appended text) before) ⊎ (Rose faults faults_after × IsPrefixSent text before after)

-- the status of a reduction that gave no table
abbrev pub status_of_fault : ForwardFault → Status
status_of_fault (fault.Composite composite) = Composite composite
status_of_fault fault.OutOfMemory = OutOfMemory
