-- The jobs file. The project's own; the keys follow
-- Kira, arXiv:1705.05610.
use Rattle.std.specs.Prelude.{ℕ, ◌+◌, Bool, true, false, not, ◌&&◌, if◌then◌else◌, ◌==◌, List, [], ◌∷◌, ◌++◌, length, take, drop, map, codes, slice_set, is_some, Option, Some, None, Ok}
use Rattle.std.specs.List.{list_all, list_any, prefix_len}
use Rattle.std.specs.Str.{bytes_eq}
use Rattle.yaml_text.specs.declared.tree.Tree.{Tree}
use Rattle.yaml_text.specs.declared.tree.Pair.{Pair}
use Rattle.yaml_text.specs.Lines.{Bytes}
use Rattle.text_tokens.specs.Names.{is_among}
use Rattle.rational_expressions.specs.Values.{place_of}
use Rattle.seed_sets.specs.declared.Spec.{Spec}
use Rattle.input_schema.specs.declared.faults.File.TheVariants.{Words, Jobs}
use Rattle.input_schema.specs.declared.faults.InputKind.TheVariants.{ManyJobs, NoValue, BadOverride, UnknownName, DuplicateName}
use Rattle.input_schema.specs.Readings.{Outcome, refuse, ◌>>=◌, each}
use Rattle.input_schema.specs.Nodes.{line_of, scalar, items, pair, flag}
use Rattle.input_schema.specs.Maps.{Key, fields, needed, value_of}
use Rattle.input_schema.specs.Names.{reference}
use Rattle.job_schema.specs.declared.frames.Frame.{Frame}
use Rattle.job_schema.specs.declared.selections.ListFile.{ListFile}
use Rattle.job_schema.specs.declared.selections.Selection.{Selection}
use Rattle.job_schema.specs.declared.points.Setting.{Setting}
use Rattle.job_schema.specs.declared.points.PointInput.{PointInput}
use Rattle.job_schema.specs.declared.jobs.Job.{Job}
use Rattle.job_schema.specs.Ratios.{ratio, prime}
use Rattle.job_schema.specs.Specs.{no_limit, specs}

-- ---- the selection

-- a list file: the place of its family, and its name
abbrev pub list_file_of : List Bytes → Tree × Tree → Outcome ListFile
list_file_of names both =
    reference Jobs both.0 names >>= (λ family. scalar Jobs both.1 >>= (λ name. Ok (record { family = family; name = name })))

abbrev pub list_file : List Bytes → Tree → Outcome ListFile
list_file names node = pair Jobs node >>= list_file_of names

abbrev pub named_files : List Bytes → Tree → Outcome (List ListFile)
named_files names node = items Jobs node 0 16 >>= each (list_file names) []

abbrev pub list_files : List Bytes → Option Tree → Outcome (List ListFile)
list_files names None = Ok []
list_files names (Some node) = named_files names node

abbrev pub selected_specs : List Bytes → List Frame → Option Tree → Outcome (List Spec)
selected_specs names frames None = Ok []
selected_specs names frames (Some node) = specs names frames 0 node

abbrev pub selection_keys : List Key
selection_keys =
    record { name = codes "select_mandatory_recursively"; is_needed = false }
    ∷ record { name = codes "select_mandatory_list"; is_needed = false }
    ∷ []

abbrev pub selection_pairs : Tree → Outcome (List Pair)
selection_pairs node = fields Jobs selection_keys node

abbrev pub specs_in : List Bytes → List Frame → List Pair → Outcome (List Spec)
specs_in names frames pairs = selected_specs names frames (value_of pairs (codes "select_mandatory_recursively"))

abbrev pub files_in : List Bytes → List Pair → Outcome (List ListFile)
files_in names pairs = list_files names (value_of pairs (codes "select_mandatory_list"))

abbrev pub selection_of : List Bytes → List Frame → List Pair → Outcome Selection
selection_of names frames pairs =
    specs_in names frames pairs >>= (λ found. files_in names pairs >>= (λ files. Ok (record { specs = found; files = files })))

-- the specs and the list files that a job selects
abbrev pub selection : List Bytes → List Frame → Tree → Outcome Selection
selection names frames node = selection_pairs node >>= selection_of names frames

-- ---- the numeric point

-- the keys that the point may have: the prime, and these parameters
abbrev pub point_keys : List Bytes → List Key
point_keys names = record { name = codes "prime"; is_needed = false } ∷ map (λ name. record { name = name; is_needed = false }) names

abbrev pub prime_in : Option Tree → Outcome (Option ℕ)
prime_in None = Ok None
prime_in (Some node) = scalar Jobs node >>= prime Jobs (line_of node) >>= (λ p. Ok (Some p))

abbrev pub setting_in : Option Tree → Outcome (Option Setting)
setting_in None = Ok None
setting_in (Some node) =
    scalar Jobs node >>= ratio Jobs (line_of node) >>= (λ r. Ok (Some (record { file = Jobs; line = line_of node; ratio = r })))

abbrev pub setting_of : List Pair → Bytes → Outcome (Option Setting)
setting_of pairs name = setting_in (value_of pairs name)

abbrev pub settings_of : List Bytes → List Pair → Outcome (List (Option Setting))
settings_of names pairs = each (setting_of pairs) [] names

abbrev pub point_of : List Bytes → ℕ → List Pair → Outcome PointInput
point_of names line pairs =
    prime_in (value_of pairs (codes "prime")) >>= (λ p. settings_of names pairs >>= (λ found. Ok (record { line = line; prime = p; settings = found })))

abbrev pub point_pairs : List Bytes → Tree → Outcome (List Pair)
point_pairs names node = fields Jobs (point_keys names) node

-- the values of the prime and of these parameters, as far as the file gives them
abbrev pub point : List Bytes → Tree → Outcome PointInput
point names node = point_pairs names node >>= point_of names (line_of node)

-- ---- the job

abbrev pub job_keys : List Key
job_keys =
    record { name = codes "reduce"; is_needed = true }
    ∷ record { name = codes "select_integrals"; is_needed = true }
    ∷ record { name = codes "run_symmetries"; is_needed = false }
    ∷ record { name = codes "run_initiate"; is_needed = false }
    ∷ record { name = codes "run_triangular"; is_needed = false }
    ∷ record { name = codes "run_back_substitution"; is_needed = false }
    ∷ record { name = codes "numeric_point"; is_needed = true }
    ∷ []

-- a run flag is `true` or isn't there
abbrev pub run_flag : Option Tree → Outcome (Unit {0})
run_flag None = Ok tt
run_flag (Some node) = flag Jobs node

abbrev pub run_flags : List Pair → Outcome (Unit {0})
run_flags pairs =
    run_flag (value_of pairs (codes "run_symmetries")) >>= (λ _.
    run_flag (value_of pairs (codes "run_initiate")) >>= (λ _.
    run_flag (value_of pairs (codes "run_triangular")) >>= (λ _.
    run_flag (value_of pairs (codes "run_back_substitution")))))

abbrev pub reduced_in : List Bytes → List Frame → ℕ → List Pair → Outcome (List Spec)
reduced_in names frames line pairs = needed Jobs line pairs (codes "reduce") >>= specs names frames 1

abbrev pub selected_in : List Bytes → List Frame → ℕ → List Pair → Outcome Selection
selected_in names frames line pairs = needed Jobs line pairs (codes "select_integrals") >>= selection names frames

abbrev pub point_in : List Bytes → ℕ → List Pair → Outcome PointInput
point_in parameters line pairs = needed Jobs line pairs (codes "numeric_point") >>= point parameters

abbrev pub job_of : List Bytes → List Frame → List Bytes → ℕ → List Pair → Outcome Job
job_of names frames parameters line pairs =
    reduced_in names frames line pairs >>= (λ reduce.
    selected_in names frames line pairs >>= (λ select.
    run_flags pairs >>= (λ _.
    point_in parameters line pairs >>= (λ values.
    Ok (record { reduce = reduce; select = select; point = values })))))

abbrev pub job_pairs : Tree → Outcome (List Pair)
job_pairs node = fields Jobs job_keys node

abbrev pub job : List Bytes → List Frame → List Bytes → Tree → Outcome Job
job names frames parameters node = job_pairs node >>= job_of names frames parameters (line_of node)

-- ---- the file

-- just one job
abbrev pub only_job : List Tree → Outcome Tree
only_job (a ∷ b ∷ rest) = refuse Jobs (line_of b) ManyJobs
only_job (a ∷ []) = Ok a
only_job [] = refuse Jobs 0 ManyJobs

abbrev pub single_key : Bytes → List Key
single_key name = record { name = name; is_needed = true } ∷ []

-- the value of the one key that a map has
abbrev pub under : Bytes → Tree → Outcome Tree
under name node = fields Jobs (single_key name) node >>= (λ pairs. needed Jobs (line_of node) pairs name)

abbrev pub job_node : Tree → Outcome Tree
job_node tree = under (codes "jobs") tree >>= (λ node. items Jobs node 1 no_limit >>= only_job)

-- The job of the file of jobs. `names` are the families' names, `frames` what is known of each, and
-- `parameters` the names of the dimension and of the invariants that may have a value.
abbrev pub jobs : List Bytes → List Frame → List Bytes → Tree → Outcome Job
jobs names frames parameters tree =
    job_node tree >>= (λ item. under (codes "reduce_sectors") item >>= job names frames parameters)
