-- The plan of a job, or its first refusal, as the words and the files give it. The project's own.
use Rattle.std.specs.Prelude.{ℕ, Bool, if◌then◌else◌, List, [], Ok, Err, map, slice_index_or}
use Rattle.yaml_text.specs.Lines.{Bytes}
use Rattle.input_schema.specs.declared.faults.File.{File}
use Rattle.input_schema.specs.declared.faults.File.TheVariants as file
use Rattle.job_schema.specs.Overridden.{Override}
use Rattle.job_point.specs.declared.faults.PlanError.{PlanError}
use Rattle.job_point.specs.declared.faults.PlanError.TheVariants as plan_error
use Rattle.job_point.specs.declared.faults.Singular.TheVariants as singular
use Rattle.job_outline.specs.Outlines.{Outline}
use Rattle.job_outline.specs.Readings.{names_of}
use Rattle.job_plan.specs.Plans.{Plan, IsPlan}
use Rattle.kira_outside.specs.Held.{Held}
use Rattle.kira_app.specs.declared.status.Status.{Status}
use Rattle.kira_app.specs.declared.status.Status.TheVariants as status
use Rattle.kira_app.specs.declared.refusal.Refusal.{Refusal}
use Rattle.job_point.specs.Steps.{Is, Then}
use Rattle.kira_app.specs.Steps.{Step, plain, OfPlan}
use Rattle.command_line.specs.Request.{Asked}
use Rattle.command_line.specs.Request as line
use Rattle.kira_app.specs.Words.{asks, is_served, job_file, overrides_of}
use Rattle.kira_app.specs.Sources.{Sources, OutlineOf, ReadsSources}

-- ---- the refusals of a plan

abbrev pub status_of : PlanError → Status
status_of (plan_error.Input fault) = status.Input fault
status_of (plan_error.Singular cause) = status.Singular cause
status_of (plan_error.RulesClash multipliers residue) = status.RulesClash multipliers residue
status_of (plan_error.Composite fault) = status.Composite fault
status_of (plan_error.TooMany what count) = status.TooMany what count
status_of plan_error.OutOfMemory = status.OutOfMemory

-- the name of the list file with this number
abbrev pub list_name : Outline → ℕ → Bytes
list_name outline number = slice_index_or (map (λ list. list.name) outline.select.files) number []

-- the name of the family with this number
abbrev pub family_name : Outline → ℕ → Bytes
family_name outline family = slice_index_or (names_of outline.families) family []

-- the name of the file at fault, where the words and the files don't fix it
abbrev pub name_of_file : Outline → File → Bytes
name_of_file outline (file.List number) = list_name outline number
name_of_file outline _ = []

-- the name that a message tells: that of the list file at fault, or of the family
abbrev pub name_in : Outline → PlanError → Bytes
name_in outline (plan_error.Input fault) = name_of_file outline fault.file
name_in outline (plan_error.Singular (singular.NotBasis family vector)) = family_name outline family
name_in outline _ = []

abbrev pub refusal_of : Outline → PlanError → Refusal
refusal_of outline e = record { status = status_of e; name = name_in outline e }

-- ---- the plan

-- the plan of a job whose files hold this, with these words
abbrev pub PlanOfSources : List Override → Sources → Step Plan
PlanOfSources overrides sources =
    Then (OutlineOf overrides sources.trees) (λ outline. OfPlan (refusal_of outline) (IsPlan outline sources.lists))

-- Words that ask for the usage line have neither a plan nor a refusal.
abbrev pub ServesAs : Asked → Bool → Step (Unit {0})
ServesAs line.usage served = Is (Err (plain status.Usage))
ServesAs line.help served = λ r. ⊥
ServesAs line.call served = Is (if served then Ok tt else Err (plain status.NotYet))

abbrev pub ServesWords : List Bytes → Step (Unit {0})
ServesWords words = ServesAs (asks words) (is_served words)

-- The plan that the words and the files give, or the first refusal.
abbrev pub PlanOf : List Bytes → Held → Step Plan
PlanOf words held =
    Then (ServesWords words) (λ _.
    Then (ReadsSources (overrides_of words) (job_file words) held) (PlanOfSources (overrides_of words)))
