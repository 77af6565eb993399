-- No reading of the jobs file or of a word says that a file is missing.
use Rattle.std.proofs.Common.{◌+◌, ◌==◌, ℕ, Bool, true, false, List, [], ◌∷◌, ◌++◌, length, drop, take, map, Option, Some, None, Ok, if◌then◌else◌, codes}
use Rattle.yaml_text.specs.declared.tree.Tree.{Tree}
use Rattle.yaml_text.specs.declared.tree.Pair.{Pair}
use Rattle.yaml_text.specs.Lines.{Bytes}
use Rattle.input_schema.specs.declared.faults.File.{File}
use Rattle.input_schema.specs.declared.faults.File.TheVariants.{Jobs, Words}
use Rattle.input_schema.specs.Readings.{each}
use Rattle.input_schema.specs.Nodes.{line_of}
use Rattle.input_schema.specs.Numbers.{is_negative, unsigned}
use Rattle.input_schema.specs.Maps.{value_of}
use Rattle.input_schema.proofs.Present.{IsPresent, passed, refused, behind, either, each_read, is_present, scalar_present, items_present, pair_present, flag_present, written_number_present, wide_number_present, number_present, fields_present, needed_present, reference_present}
use Rattle.job_schema.specs.declared.frames.Frame.{Frame}
use Rattle.job_schema.specs.declared.groups.Group.{Group}
use Rattle.job_schema.specs.declared.points.PointInput.{PointInput}
use Rattle.job_schema.specs.declared.points.Setting.{Setting}
use Rattle.job_schema.specs.Specs.{topologies, fits, is_covered, sector_at, sector, sectors, bound, optional_bound, needed_bound, bounds, group_families, group_sectors, group_of, group_keys, group, limited, specs, no_limit}
use Rattle.job_schema.specs.Ratios.{front, is_ratio, divisor, ratio_in, ratio, is_modulus, modulus, prime}
use Rattle.job_schema.specs.Overridden.{Override}
use Rattle.job_schema.specs.Overrides.{name_length, name_in, value_in, is_repeated, with_setting, with_prime, with_value, is_parameter, with_name, with_word, with_words, given, given_settings, settled, numeric_point}
use Rattle.job_schema.specs.Jobs.{list_file_of, list_file, named_files, list_files, selected_specs, selection_keys, specs_in, files_in, selection_of, selection, prime_in, setting_in, setting_of, settings_of, point_of, point_keys, point, run_flag, run_flags, reduced_in, selected_in, point_in, job_of, job_keys, job, only_job, single_key, under, job_node, jobs}
use Rattle.job_schema.specs.Laws.{JobsNeverSayMissing, PointsNeverSayMissing}

-- ---- numbers

divisor_present : (file : File) (line at : ℕ) (text : Bytes) → IsPresent (divisor file line at text)
divisor_present file line at [] = passed
divisor_present file line at (b ∷ bs) = behind _ _ (written_number_present file line bs) (λ n. passed)

ratio_in_present : (file : File) (line : ℕ) (negative : Bool) (offset : ℕ) (body : Bytes) → IsPresent (ratio_in file line negative offset body)
ratio_in_present file line negative offset body =
    either (is_ratio body) _ _ (behind _ _ (written_number_present file line (take (front body) body)) (λ n.
    behind _ _ (divisor_present file line (offset + front body) (drop (front body) body)) (λ d. passed))) (refused tt)

ratio_present : (file : File) (line : ℕ) (text : Bytes) → IsPresent (ratio file line text)
ratio_present file line text = ratio_in_present file line (is_negative text) (if is_negative text then 1 else 0) (unsigned text)

prime_present : (file : File) (line : ℕ) (text : Bytes) → IsPresent (prime file line text)
prime_present file line text = behind _ (modulus file line) (written_number_present file line text) (λ p. either _ _ _ passed (refused tt))

-- ---- specs

sectors_present : (frames : List Frame) (families : List ℕ) (node : Tree) → IsPresent (sectors frames families node)
sectors_present frames families node =
    behind _ _ (items_present Jobs node 1 no_limit) (each_read (sector frames families) (λ item.
    behind _ (sector_at frames families (line_of item)) (wide_number_present Jobs item) (λ n.
    either (fits frames families n) _ _ (either (is_covered frames families n) _ _ passed (refused tt)) (refused tt))) [])

topologies_present : (names : List Bytes) (node : Tree) → IsPresent (topologies names node)
topologies_present names node = behind _ _ (items_present Jobs node 1 no_limit) (each_read _ (λ item. reference_present Jobs item names) [])

optional_present : (node : Option Tree) → IsPresent (optional_bound node)
optional_present None = passed
optional_present (Some node) = behind (bound node) _ (number_present Jobs node 0 100) (λ n. passed)

needed_bound_present : (line : ℕ) (pairs : List Pair) (key : Bytes) → IsPresent (needed_bound line pairs key)
needed_bound_present line pairs key = behind _ bound (needed_present Jobs line pairs key) (λ node. number_present Jobs node 0 100)

bounds_present : (line : ℕ) (pairs : List Pair) → IsPresent (bounds line pairs)
bounds_present line pairs =
    behind _ _ (needed_bound_present line pairs (codes "r")) (λ r.
    behind _ _ (needed_bound_present line pairs (codes "s")) (λ s.
    behind _ _ (optional_present (value_of pairs (codes "d"))) (λ d. passed)))

group_present : (names : List Bytes) (frames : List Frame) (node : Tree) → IsPresent (group names frames node)
group_present names frames node =
    behind _ (group_of names frames (line_of node)) (fields_present Jobs group_keys node) (λ pairs.
    behind (group_families names (line_of node) pairs) _ (behind _ (topologies names) (needed_present Jobs (line_of node) pairs (codes "topologies")) (topologies_present names)) (λ families.
    behind (group_sectors frames (line_of node) pairs families) _ (behind _ (sectors frames families) (needed_present Jobs (line_of node) pairs (codes "sectors")) (sectors_present frames families)) (λ found.
    behind _ _ (bounds_present (line_of node) pairs) (λ b. passed))))

specs_present : (names : List Bytes) (frames : List Frame) (least : ℕ) (node : Tree) → IsPresent (specs names frames least node)
specs_present names frames least node =
    behind _ (limited (line_of node))
    (behind _ (each (group names frames) []) (items_present Jobs node least no_limit) (each_read (group names frames) (group_present names frames) []))
    (λ groups. either _ _ _ (refused tt) passed)

-- ---- the selection

list_file_present : (names : List Bytes) (node : Tree) → IsPresent (list_file names node)
list_file_present names node =
    behind _ (list_file_of names) (pair_present Jobs node) (λ both.
    behind _ _ (reference_present Jobs both.0 names) (λ family. behind _ _ (scalar_present Jobs both.1) (λ name. passed)))

files_present : (names : List Bytes) (node : Option Tree) → IsPresent (list_files names node)
files_present names None = passed
files_present names (Some node) = behind _ _ (items_present Jobs node 0 16) (each_read (list_file names) (list_file_present names) [])

selected_present : (names : List Bytes) (frames : List Frame) (node : Option Tree) → IsPresent (selected_specs names frames node)
selected_present names frames None = passed
selected_present names frames (Some node) = specs_present names frames 0 node

selection_present : (names : List Bytes) (frames : List Frame) (node : Tree) → IsPresent (selection names frames node)
selection_present names frames node =
    behind _ (selection_of names frames) (fields_present Jobs selection_keys node) (λ pairs.
    behind (specs_in names frames pairs) _ (selected_present names frames (value_of pairs (codes "select_mandatory_recursively"))) (λ found.
    behind (files_in names pairs) _ (files_present names (value_of pairs (codes "select_mandatory_list"))) (λ files. passed)))

-- ---- the numeric point

prime_in_present : (node : Option Tree) → IsPresent (prime_in node)
prime_in_present None = passed
prime_in_present (Some node) =
    behind _ (λ p. Ok (Some p)) (behind _ (prime Jobs (line_of node)) (scalar_present Jobs node) (prime_present Jobs (line_of node))) (λ p. passed)

setting_present : (node : Option Tree) → IsPresent (setting_in node)
setting_present None = passed
setting_present (Some node) =
    behind _ (λ r. Ok (Some (record { file = Jobs; line = line_of node; ratio = r }))) (behind _ (ratio Jobs (line_of node)) (scalar_present Jobs node) (ratio_present Jobs (line_of node))) (λ r. passed)

point_present : (names : List Bytes) (node : Tree) → IsPresent (point names node)
point_present names node =
    behind _ (point_of names (line_of node)) (fields_present Jobs (point_keys names) node) (λ pairs.
    behind (prime_in (value_of pairs (codes "prime"))) _ (prime_in_present (value_of pairs (codes "prime"))) (λ p.
    behind (settings_of names pairs) _ (each_read (setting_of pairs) (λ name. setting_present (value_of pairs name)) [] names) (λ found. passed)))

-- ---- the job

flag_in_present : (node : Option Tree) → IsPresent (run_flag node)
flag_in_present None = passed
flag_in_present (Some node) = flag_present Jobs node

flags_present : (pairs : List Pair) → IsPresent (run_flags pairs)
flags_present pairs =
    behind _ _ (flag_in_present (value_of pairs (codes "run_symmetries"))) (λ _.
    behind _ _ (flag_in_present (value_of pairs (codes "run_initiate"))) (λ _.
    behind _ _ (flag_in_present (value_of pairs (codes "run_triangular"))) (λ _.
    flag_in_present (value_of pairs (codes "run_back_substitution")))))

job_present : (names : List Bytes) (frames : List Frame) (parameters : List Bytes) (node : Tree) → IsPresent (job names frames parameters node)
job_present names frames parameters node =
    let line = line_of node in
    behind _ (job_of names frames parameters line) (fields_present Jobs job_keys node) (λ pairs.
    behind (reduced_in names frames line pairs) _ (behind _ (specs names frames 1) (needed_present Jobs line pairs (codes "reduce")) (specs_present names frames 1)) (λ reduce.
    behind (selected_in names frames line pairs) _ (behind _ (selection names frames) (needed_present Jobs line pairs (codes "select_integrals")) (selection_present names frames)) (λ select.
    behind (run_flags pairs) _ (flags_present pairs) (λ _.
    behind (point_in parameters line pairs) _ (behind _ (point parameters) (needed_present Jobs line pairs (codes "numeric_point")) (point_present parameters)) (λ values. passed)))))

only_present : (nodes : List Tree) → IsPresent (only_job nodes)
only_present [] = refused tt
only_present (a ∷ []) = passed
only_present (a ∷ b ∷ rest) = refused tt

under_present : (name : Bytes) (node : Tree) → IsPresent (under name node)
under_present name node = behind _ _ (fields_present Jobs (single_key name) node) (λ pairs. needed_present Jobs (line_of node) pairs name)

pub jobs_present : JobsNeverSayMissing
jobs_present names frames parameters tree =
    is_present _ (behind (job_node tree) _
    (behind _ _ (under_present (codes "jobs") tree) (λ node. behind _ only_job (items_present Jobs node 1 no_limit) only_present))
    (λ item. behind (under (codes "reduce_sectors") item) (job names frames parameters) (under_present (codes "reduce_sectors") item) (job_present names frames parameters)))

-- ---- the words

module _ (names : List Bytes) where
  setting_word_present : (point : PointInput) (word : Override) → IsPresent (with_setting names point word)
  setting_word_present point word = behind _ _ (ratio_present Words word.place (value_in word)) (λ r. passed)

  prime_word_present : (point : PointInput) (word : Override) → IsPresent (with_prime point word)
  prime_word_present point word = behind _ _ (prime_present Words word.place (value_in word)) (λ p. passed)

  word_present : (earlier : List Override) (point : PointInput) (word : Override) → IsPresent (with_word names earlier point word)
  word_present earlier point word =
      either (name_length word.text == length word.text) _ (with_name names earlier point word) (refused tt)
      (either (is_parameter names (name_in word)) _ _
      (either (is_repeated earlier (name_in word)) _ (with_value names point word) (refused tt)
      (either _ (with_prime point word) (with_setting names point word) (prime_word_present point word) (setting_word_present point word))) (refused tt))

  words_present : (earlier : List Override) (point : PointInput) (words : List Override) → IsPresent (with_words names earlier point words)
  words_present earlier point [] = passed
  words_present earlier point (word ∷ words) =
      behind (with_word names earlier point word) (λ p. with_words names (earlier ++ word ∷ []) p words) (word_present earlier point word)
      (λ p. words_present (earlier ++ word ∷ []) p words)

given_value : {A : Type 0} (line : ℕ) (value : Option A) → IsPresent (given line value)
given_value line None = refused tt
given_value line (Some a) = passed

pub points_present : PointsNeverSayMissing
points_present names point words =
    is_present _ (behind (with_words names [] point words) settled (words_present names [] point words) (λ p.
    behind (given p.line p.prime) _ (given_value p.line p.prime) (λ found.
    behind (given_settings p.line p.settings) _ (each_read (given p.line) (given_value p.line) [] p.settings) (λ settings. passed))))
