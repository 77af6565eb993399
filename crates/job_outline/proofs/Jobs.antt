-- What every job of the file of jobs has: as many settings as there are parameters, also where words give
-- values, specs that fit, and few list files, each of a family.
use Rattle.std.proofs.Common.{◌≡◌, ◌<◌, ◌≤◌, ◌+◌, ℕ, All, List, [], ◌∷◌, ◌++◌, map, length, Option, Some, None, Result, Ok, if◌then◌else◌, ◌==◌, refl, ◌∙◌, subst, arith, codes}
use Rattle.std.specs.Prelude.{IfOk}
use Rattle.std.proofs.lemmas.List.Elements.{All-nil}
use Rattle.std.proofs.lemmas.List.{length-set}
use Rattle.std.specs.Str.{bytes_eq}
use Rattle.yaml_text.specs.declared.tree.Tree.{Tree}
use Rattle.yaml_text.specs.declared.tree.Pair.{Pair}
use Rattle.yaml_text.specs.Lines.{Bytes}
use Rattle.seed_sets.specs.Seeds.{IsFitting}
use Rattle.input_schema.specs.declared.faults.File.TheVariants.{Jobs, Words}
use Rattle.input_schema.specs.declared.faults.SchemaError.{SchemaError}
use Rattle.input_schema.specs.declared.faults.InputKind.TheVariants.{BadOverride, UnknownName, DuplicateName}
use Rattle.input_schema.specs.Readings.{refuse, ◌>>=◌, Gives, each}
use Rattle.input_schema.specs.Nodes.{line_of, items}
use Rattle.input_schema.specs.Maps.{needed, value_of}
use Rattle.job_schema.specs.declared.frames.Frame.{Frame}
use Rattle.family_schema.specs.declared.content.Family.{Family}
use Rattle.job_schema.specs.declared.selections.ListFile.{ListFile}
use Rattle.job_schema.specs.declared.points.PointInput.{PointInput}
use Rattle.job_schema.specs.declared.points.NumericPoint.{NumericPoint}
use Rattle.job_schema.specs.declared.jobs.Job.{Job}
use Rattle.job_schema.specs.Overridden.{Override}
use Rattle.job_schema.specs.Specs.{specs}
use Rattle.job_schema.specs.Ratios.{ratio, prime}
use Rattle.job_schema.specs.Overrides.{name_length, name_in, value_in, is_repeated, is_parameter, with_setting, with_prime, with_value, with_name, with_word, with_words, given, given_settings, settled, numeric_point}
use Rattle.job_schema.specs.Jobs.{list_file, named_files, list_files, selected_specs, specs_in, files_in, selection_pairs, selection_of, selection, prime_in, setting_of, settings_of, point_of, point_pairs, point, run_flags, reduced_in, selected_in, point_in, job_pairs, job_of, job, under, job_node, jobs}
use Rattle.job_outline.specs.Outlines.{IsSelection}
use Rattle.job_outline.specs.Readings.{frame_of}
use Rattle.job_outline.specs.Shapes.{shapes_of}
use Rattle.job_outline.proofs.Outcomes.{behind, behind_known, both, weaker, answered, each_counts, each_all, items_few, either}
use Rattle.job_outline.proofs.JobSpecs.{file_placed, specs_fit}

-- ---- the selection

-- few list files, each of one of so many families
record AreFiles (count : ℕ) (files : List ListFile) : Type 0 where
  pub few : length files ≤ 16
  pub placed : All (λ file. file.family < count) files

named_files_kept : (names : List Bytes) (node : Tree) → IfOk (named_files names node) (AreFiles (length names))
named_files_kept names node =
    behind_known (items Jobs node 0 16) (each (list_file names) []) (λ nodes. length nodes ≤ 16) (AreFiles (length names)) (items_few Jobs node 0 16)
    (λ nodes few. both (each (list_file names) [] nodes) (λ files. length files ≡ 0 + length nodes) (All (λ file. file.family < length names)) (AreFiles (length names))
    (each_counts (list_file names) [] nodes) (each_all (list_file names) (λ file. file.family < length names) (file_placed names) [] nodes (All-nil _))
    (λ files e placed. record { few = omega (arith, e, few); placed = placed }))

list_files_kept : (names : List Bytes) (node : Option Tree) → IfOk (list_files names node) (AreFiles (length names))
list_files_kept names None = record { few = omega arith; placed = All-nil _ }
list_files_kept names (Some node) = named_files_kept names node

module _ (families : List Family) (names : List Bytes) (same : length names ≡ length families) where
  selected_specs_fit : (node : Option Tree) → IfOk (selected_specs names (map frame_of families) node) (All (IsFitting (shapes_of families)))
  selected_specs_fit None = All-nil _
  selected_specs_fit (Some node) = specs_fit families names same 0 node

  selection_kept : (node : Tree) → IfOk (selection names (map frame_of families) node) (IsSelection families)
  selection_kept node =
      behind (selection_pairs node) (selection_of names (map frame_of families)) (IsSelection families) (λ pairs.
      behind_known (specs_in names (map frame_of families) pairs) (λ found. files_in names pairs >>= (λ files. Ok (record { specs = found; files = files }))) (All (IsFitting (shapes_of families))) (IsSelection families)
      (selected_specs_fit (value_of pairs (codes "select_mandatory_recursively"))) (λ found fit.
      behind_known (files_in names pairs) (λ files. Ok (record { specs = found; files = files })) (AreFiles (length names)) (IsSelection families)
      (list_files_kept names (value_of pairs (codes "select_mandatory_list"))) (λ files kept.
      record { specs_fit = fit; few_files = kept.few; files_placed = subst (λ (n : ℕ). All (λ file. file.family < n) files) same kept.placed })))

-- ---- settings

point_counts : (names : List Bytes) (node : Tree) → IfOk (point names node) (λ values. length values.settings ≡ length names)
point_counts names node =
    behind (point_pairs names node) (point_of names (line_of node)) (λ values. length values.settings ≡ length names) (λ pairs.
    behind (prime_in (value_of pairs (codes "prime"))) (λ p. settings_of names pairs >>= (λ found. Ok (record { line = line_of node; prime = p; settings = found }))) (λ (values : PointInput). length values.settings ≡ length names) (λ p.
    behind_known (settings_of names pairs) (λ found. Ok (record { line = line_of node; prime = p; settings = found })) (λ found. length found ≡ 0 + length names) (λ (values : PointInput). length values.settings ≡ length names)
    (each_counts (setting_of pairs) [] names) (λ found e. omega (arith, e))))

-- ---- the job

pub record IsJob (families : List Family) (parameters : List Bytes) (job : Job) : Type 0 where
  pub reduce_fits : All (IsFitting (shapes_of families)) job.reduce
  pub select_fits : IsSelection families job.select
  pub settings : length job.point.settings ≡ length parameters

module _ (families : List Family) (names : List Bytes) (same : length names ≡ length families) (parameters : List Bytes) where
  abbrev frames : List Frame
  frames = map frame_of families

  reduced : (line : ℕ) (pairs : List Pair) → IfOk (reduced_in names frames line pairs) (All (IsFitting (shapes_of families)))
  reduced line pairs = behind (needed Jobs line pairs (codes "reduce")) (specs names frames 1) (All (IsFitting (shapes_of families))) (specs_fit families names same 1)

  selected : (line : ℕ) (pairs : List Pair) → IfOk (selected_in names frames line pairs) (IsSelection families)
  selected line pairs = behind (needed Jobs line pairs (codes "select_integrals")) (selection names frames) (IsSelection families) (selection_kept families names same)

  pointed : (line : ℕ) (pairs : List Pair) → IfOk (point_in parameters line pairs) (λ values. length values.settings ≡ length parameters)
  pointed line pairs = behind (needed Jobs line pairs (codes "numeric_point")) (point parameters) (λ values. length values.settings ≡ length parameters) (point_counts parameters)

  job_of_fits : (line : ℕ) (pairs : List Pair) → IfOk (job_of names frames parameters line pairs) (IsJob families parameters)
  job_of_fits line pairs =
      behind_known (reduced_in names frames line pairs) _ (All (IsFitting (shapes_of families))) (IsJob families parameters) (reduced line pairs) (λ reduce fit.
      behind_known (selected_in names frames line pairs) _ (IsSelection families) (IsJob families parameters) (selected line pairs) (λ select kept.
      behind (run_flags pairs) _ (IsJob families parameters) (λ _.
      behind_known (point_in parameters line pairs) (λ values. Ok (record { reduce = reduce; select = select; point = values })) (λ values. length values.settings ≡ length parameters) (IsJob families parameters) (pointed line pairs)
      (λ values e. record { reduce_fits = fit; select_fits = kept; settings = e }))))

  jobs_fit : (tree : Tree) → IfOk (jobs names frames parameters tree) (IsJob families parameters)
  jobs_fit tree =
      behind (job_node tree) _ (IsJob families parameters) (λ item.
      behind (under (codes "reduce_sectors") item) (job names frames parameters) (IsJob families parameters) (λ node.
      behind (job_pairs node) (job_of names frames parameters (line_of node)) (IsJob families parameters) (job_of_fits (line_of node))))

  -- what each job keeps that was read
  pub jobs_kept : (tree : Tree) (r : Result Job SchemaError) → Gives (jobs names (map frame_of families) parameters tree) r → IfOk r (IsJob families parameters)
  jobs_kept tree r gives = answered (jobs names frames parameters tree) r (IsJob families parameters) gives (jobs_fit tree)

-- ---- the words

-- the words leave as many settings as there were
module _ (names : List Bytes) where
  abbrev KeepsCount : PointInput → PointInput → Type 0
  KeepsCount point found = length found.settings ≡ length point.settings

  with_setting_keeps : (point : PointInput) (word : Override) → IfOk (with_setting names point word) (KeepsCount point)
  with_setting_keeps point word = behind (ratio Words word.place (value_in word)) _ (KeepsCount point) (λ r. length-set point.settings _ _)

  with_prime_keeps : (point : PointInput) (word : Override) → IfOk (with_prime point word) (KeepsCount point)
  with_prime_keeps point word = behind (prime Words word.place (value_in word)) (λ p. Ok (record point { prime = Some p })) (KeepsCount point) (λ p. refl)

  with_word_keeps : (earlier : List Override) (point : PointInput) (word : Override) → IfOk (with_word names earlier point word) (KeepsCount point)
  with_word_keeps earlier point word =
      either (name_length word.text == length word.text) (refuse Words word.place BadOverride) (with_name names earlier point word) (KeepsCount point) tt
      (either (is_parameter names (name_in word)) (if is_repeated earlier (name_in word) then refuse Words word.place DuplicateName else with_value names point word) (refuse Words word.place UnknownName) (KeepsCount point)
      (either (is_repeated earlier (name_in word)) (refuse Words word.place DuplicateName) (with_value names point word) (KeepsCount point) tt
      (either (bytes_eq (name_in word) (codes "prime")) (with_prime point word) (with_setting names point word) (KeepsCount point) (with_prime_keeps point word) (with_setting_keeps point word))) tt)

  with_words_keep : (earlier : List Override) (point : PointInput) (words : List Override) → IfOk (with_words names earlier point words) (KeepsCount point)
  with_words_keep earlier point [] = refl
  with_words_keep earlier point (word ∷ words) =
      behind_known (with_word names earlier point word) (λ p. with_words names (earlier ++ word ∷ []) p words) (KeepsCount point) (KeepsCount point) (with_word_keeps earlier point word)
      (λ p e. weaker (with_words names (earlier ++ word ∷ []) p words) (KeepsCount p) (KeepsCount point) (with_words_keep (earlier ++ word ∷ []) p words) (λ q f. f ∙ e))

  settled_counts : (point : PointInput) → IfOk (settled point) (λ found. length found.settings ≡ length point.settings)
  settled_counts point =
      behind (given point.line point.prime) (λ p. given_settings point.line point.settings >>= (λ found. Ok (record { prime = p; settings = found }))) (λ (found : NumericPoint). length found.settings ≡ length point.settings) (λ p.
      behind_known (given_settings point.line point.settings) (λ found. Ok (record { prime = p; settings = found })) (λ found. length found ≡ 0 + length point.settings) (λ (found : NumericPoint). length found.settings ≡ length point.settings)
      (each_counts (given point.line) [] point.settings) (λ found e. omega (arith, e)))

  pub point_counted : (point : PointInput) (words : List Override) (r : Result NumericPoint SchemaError) → length point.settings ≡ length names → Gives (numeric_point names point words) r → IfOk r (λ found. length found.settings ≡ length names)
  point_counted point words r same gives =
      answered (numeric_point names point words) r (λ found. length found.settings ≡ length names) gives
      (behind_known (with_words names [] point words) settled (KeepsCount point) (λ found. length found.settings ≡ length names) (with_words_keep [] point words)
      (λ p e. weaker (settled p) (λ found. length found.settings ≡ length p.settings) (λ found. length found.settings ≡ length names) (settled_counts p) (λ found f. f ∙ e ∙ same)))
