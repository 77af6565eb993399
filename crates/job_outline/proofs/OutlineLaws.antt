-- What holds of every outline that is read: its modulus is above 1, and what it selects is told by the trees alone.
use Rattle.std.proofs.Common.{◌≡◌, ◌%◌, ◌^◌, ℕ, Bool, true, false, ◌&&◌, nat_le, List, [], ◌∷◌, ◌++◌, map, Option, Some, None, Ok, Err, if◌then◌else◌, ◌==◌, length, refl, sym, ap, ◌∙◌, subst, codes}
use Rattle.std.specs.Prelude.{IfOk, IfSome}
use Rattle.field_word.specs.Residues.{IsModulus}
use Rattle.std.specs.Str.{bytes_eq}
use Rattle.std.specs.Result.{is_ok}
use Rattle.std.proofs.lemmas.Bool.{true≢false, eqb-true, ltb-true, leb-true}
use Rattle.yaml_text.specs.declared.tree.Tree.{Tree}
use Rattle.yaml_text.specs.declared.tree.Pair.{Pair}
use Rattle.yaml_text.specs.Lines.{Bytes}
use Rattle.input_schema.specs.declared.faults.File.{File}
use Rattle.input_schema.specs.declared.faults.File.TheVariants.{Jobs, Words}
use Rattle.input_schema.specs.declared.faults.InputKind.TheVariants.{BadOverride, UnknownName, DuplicateName}
use Rattle.input_schema.specs.Readings.{Outcome, refuse, ◌>>=◌, Reading, After, Then}
use Rattle.input_schema.specs.Nodes.{line_of, scalar}
use Rattle.input_schema.specs.Numbers.{written_number}
use Rattle.input_schema.specs.Maps.{needed, value_of}
use Rattle.kinematics_schema.specs.declared.content.Kinematics.{Kinematics}
use Rattle.kinematics_schema.specs.KinematicsFile.{ReadsKinematics}
use Rattle.kinematics_schema.specs.Laws.{KinematicsAreSingle}
use Rattle.family_schema.specs.declared.content.Family.{Family}
use Rattle.family_schema.specs.FamilyFile.{ReadsFamilies}
use Rattle.family_schema.specs.Laws.{FamiliesAreSingle}
use Rattle.job_schema.specs.declared.frames.Frame.{Frame}
use Rattle.job_schema.specs.declared.points.PointInput.{PointInput}
use Rattle.job_schema.specs.declared.points.NumericPoint.{NumericPoint}
use Rattle.job_schema.specs.declared.jobs.Job.{Job}
use Rattle.job_schema.specs.Overridden.{Override}
use Rattle.job_schema.specs.Ratios.{ratio, is_modulus, modulus, prime}
use Rattle.job_schema.specs.Overrides.{name_length, name_in, value_in, is_repeated, is_parameter, with_setting, with_prime, with_value, with_name, with_word, with_words, given, given_settings, settled, numeric_point}
use Rattle.job_schema.specs.Jobs.{prime_in, settings_of, point_of, point_pairs, point, run_flags, reduced_in, selected_in, point_in, job_pairs, job_of, job, under, job_node, jobs}
use Rattle.job_outline.specs.Outlines.{Outline}
use Rattle.job_outline.specs.Readings.{parameters, names_of, frame_of, ReadsOutline}
use Rattle.job_outline.specs.Laws.{OutlinesHaveAModulus, OneSelection}
use Rattle.job_outline.proofs.Outcomes.{behind, behind_known, tested, either}

-- ---- the modulus

abbrev Serves : ℕ → Type 0
Serves = IsModulus

both_true : (a b : Bool) → (a && b) ≡ true → (a ≡ true) × (b ≡ true)
both_true true b e = (refl, e)
both_true false b e = absurd (true≢false (sym e))

serves : (p : ℕ) → is_modulus p ≡ true → IsModulus p
serves p e =
    let first = both_true (p % 2 == 1) _ e in
    let second = both_true (nat_le 3 p) _ first.1 in
    record { odd = eqb-true _ _ first.0; from_3 = leb-true 3 p second.0; below = ltb-true p (2 ^ 63) second.1 }

modulus_serves : (file : File) (line p : ℕ) → IfOk (modulus file line p) Serves
modulus_serves file line p = tested (is_modulus p) p _ Serves (serves p)

prime_serves : (file : File) (line : ℕ) (text : Bytes) → IfOk (prime file line text) Serves
prime_serves file line text = behind (written_number file line text) (modulus file line) Serves (modulus_serves file line)

-- the modulus serves, where there is one
abbrev MayServe : PointInput → Type 0
MayServe values = IfSome values.prime Serves

prime_in_serves : (node : Option Tree) → IfOk (prime_in node) (λ found. IfSome found Serves)
prime_in_serves None = tt
prime_in_serves (Some node) =
    behind_known (scalar Jobs node >>= prime Jobs (line_of node)) (λ p. Ok (Some p)) Serves (λ found. IfSome found Serves)
    (behind (scalar Jobs node) (prime Jobs (line_of node)) Serves (prime_serves Jobs (line_of node))) (λ p h. h)

point_serves : (names : List Bytes) (node : Tree) → IfOk (point names node) MayServe
point_serves names node =
    behind (point_pairs names node) (point_of names (line_of node)) MayServe (λ pairs.
    behind_known (prime_in (value_of pairs (codes "prime"))) (λ p. settings_of names pairs >>= (λ found. Ok (record { line = line_of node; prime = p; settings = found }))) (λ found. IfSome found Serves) MayServe
    (prime_in_serves (value_of pairs (codes "prime"))) (λ p h.
    behind (settings_of names pairs) (λ found. Ok (record { line = line_of node; prime = p; settings = found })) MayServe (λ found. h)))

module _ (names : List Bytes) (frames : List Frame) (keys : List Bytes) where
  job_of_serves : (line : ℕ) (pairs : List Pair) → IfOk (job_of names frames keys line pairs) (λ found. MayServe found.point)
  job_of_serves line pairs =
      behind (reduced_in names frames line pairs) _ (λ (found : Job). MayServe found.point) (λ reduce.
      behind (selected_in names frames line pairs) _ (λ (found : Job). MayServe found.point) (λ select.
      behind (run_flags pairs) _ (λ (found : Job). MayServe found.point) (λ _.
      behind_known (point_in keys line pairs) (λ values. Ok (record { reduce = reduce; select = select; point = values })) MayServe (λ (found : Job). MayServe found.point)
      (behind (needed Jobs line pairs (codes "numeric_point")) (point keys) MayServe (point_serves keys)) (λ values h. h))))

  jobs_serve : (tree : Tree) → IfOk (jobs names frames keys tree) (λ found. MayServe found.point)
  jobs_serve tree =
      behind (job_node tree) _ (λ (found : Job). MayServe found.point) (λ item.
      behind (under (codes "reduce_sectors") item) (job names frames keys) (λ (found : Job). MayServe found.point) (λ node.
      behind (job_pairs node) (job_of names frames keys (line_of node)) (λ (found : Job). MayServe found.point) (job_of_serves (line_of node))))

module _ (names : List Bytes) where
  with_setting_serves : (values : PointInput) (word : Override) → MayServe values → IfOk (with_setting names values word) MayServe
  with_setting_serves values word h = behind (ratio Words word.place (value_in word)) _ MayServe (λ r. h)

  with_prime_serves : (values : PointInput) (word : Override) → IfOk (with_prime values word) MayServe
  with_prime_serves values word = behind_known (prime Words word.place (value_in word)) (λ p. Ok (record values { prime = Some p })) Serves MayServe (prime_serves Words word.place (value_in word)) (λ p h. h)

  with_word_serves : (earlier : List Override) (values : PointInput) (word : Override) → MayServe values → IfOk (with_word names earlier values word) MayServe
  with_word_serves earlier values word h =
      either (name_length word.text == length word.text) (refuse Words word.place BadOverride) (with_name names earlier values word) MayServe tt
      (either (is_parameter names (name_in word)) (if is_repeated earlier (name_in word) then refuse Words word.place DuplicateName else with_value names values word) (refuse Words word.place UnknownName) MayServe
      (either (is_repeated earlier (name_in word)) (refuse Words word.place DuplicateName) (with_value names values word) MayServe tt
      (either (bytes_eq (name_in word) (codes "prime")) (with_prime values word) (with_setting names values word) MayServe (with_prime_serves values word) (with_setting_serves values word h))) tt)

  with_words_serve : (earlier : List Override) (values : PointInput) (words : List Override) → MayServe values → IfOk (with_words names earlier values words) MayServe
  with_words_serve earlier values [] h = h
  with_words_serve earlier values (word ∷ words) h =
      behind_known (with_word names earlier values word) (λ p. with_words names (earlier ++ word ∷ []) p words) MayServe MayServe (with_word_serves earlier values word h)
      (λ p k. with_words_serve (earlier ++ word ∷ []) p words k)

  given_serves : (line : ℕ) (found : Option ℕ) → IfSome found Serves → IfOk (given line found) Serves
  given_serves line None h = tt
  given_serves line (Some p) h = h

  numeric_point_serves : (values : PointInput) (words : List Override) → MayServe values → IfOk (numeric_point names values words) (λ found. Serves found.prime)
  numeric_point_serves values words h =
      behind_known (with_words names [] values words) settled MayServe (λ (found : NumericPoint). Serves found.prime) (with_words_serve [] values words h) (λ p k.
      behind_known (given p.line p.prime) (λ q. given_settings p.line p.settings >>= (λ found. Ok (record { prime = q; settings = found }))) Serves (λ (found : NumericPoint). Serves found.prime) (given_serves p.line p.prime k) (λ q m.
      behind (given_settings p.line p.settings) (λ found. Ok (record { prime = q; settings = found })) (λ (found : NumericPoint). Serves found.prime) (λ found. m)))

-- ---- an outline from its parts

-- a value that follows a value
split : {A B : Type 0} (first : Reading A) (next : A → Reading B) (b : B) (o : Outcome A) → first o → After o next (Ok b) → (a : A) × first (Ok a) × next a (Ok b)
split first next b (Ok a) h k = (a, h, k)
split first next b (Err f) h k = absurd (true≢false (ap is_ok k))

parted : {A B : Type 0} (first : Reading A) (next : A → Reading B) (b : B) → Then first next (Ok b) → (a : A) × first (Ok a) × next a (Ok b)
parted first next b h = split first next b h.outcome h.is h.after

abbrev outline_or : Outline → Outcome Outline → Outline
outline_or d (Ok outline) = outline
outline_or d (Err f) = d

-- what the files and the words say, part by part
record Parts (families kinematics tree : Tree) (words : List Override) (outline : Outline) : Type 0 where
  pub k : Kinematics
  pub is_k : ReadsKinematics kinematics (Ok k)
  pub f : List Family
  pub is_f : ReadsFamilies k families (Ok f)
  pub found : Job
  pub is_job : jobs (names_of f) (map frame_of f) (parameters k) tree ≡ Ok found
  pub at : NumericPoint
  pub is_point : numeric_point (parameters k) found.point words ≡ Ok at
  pub same : outline ≡ record { kinematics = k; families = f; reduce = found.reduce; select = found.select; point = at }

parts_of : (families kinematics tree : Tree) (words : List Override) (outline : Outline) → ReadsOutline families kinematics tree words (Ok outline) → Parts families kinematics tree words outline
parts_of families kinematics tree words outline h =
    let one = parted _ _ outline h in
    let two = parted _ _ outline one.2 in
    let three = parted _ _ outline two.2 in
    let four = parted _ _ outline three.2 in
    record {
      k = one.0;
      is_k = one.1;
      f = two.0;
      is_f = two.1;
      found = three.0;
      is_job = three.1;
      at = four.0;
      is_point = four.1;
      same = ap (outline_or outline) (sym four.2);
    }

-- ---- the laws

serves_at : (o : Outcome NumericPoint) (at : NumericPoint) → o ≡ Ok at → IfOk o (λ found. Serves found.prime) → Serves at.prime
serves_at o at e h = subst (λ (x : Outcome NumericPoint). IfOk x (λ found. Serves found.prime)) e h

may_serve_at : (o : Outcome Job) (found : Job) → o ≡ Ok found → IfOk o (λ job. MayServe job.point) → MayServe found.point
may_serve_at o found e h = subst (λ (x : Outcome Job). IfOk x (λ job. MayServe job.point)) e h

pub outlines_have_a_modulus : OutlinesHaveAModulus
outlines_have_a_modulus families kinematics tree words outline h =
    let p = parts_of families kinematics tree words outline h in
    let may = may_serve_at _ p.found p.is_job (jobs_serve (names_of p.f) (map frame_of p.f) (parameters p.k) tree) in
    subst (λ (o : Outline). Serves o.point.prime) (sym p.same) (serves_at _ p.at p.is_point (numeric_point_serves (parameters p.k) p.found.point words may))

abbrev kinematics_or : Kinematics → Outcome Kinematics → Kinematics
kinematics_or d (Ok k) = k
kinematics_or d (Err f) = d

abbrev families_or : List Family → Outcome (List Family) → List Family
families_or d (Ok f) = f
families_or d (Err e) = d

abbrev job_or : Job → Outcome Job → Job
job_or d (Ok job) = job
job_or d (Err e) = d

pub one_selection : KinematicsAreSingle → FamiliesAreSingle → OneSelection
one_selection single_kinematics single_families families kinematics tree words others one other h k =
    let p = parts_of families kinematics tree words one h in
    let q = parts_of families kinematics tree others other k in
    let same_k : p.k ≡ q.k = ap (kinematics_or p.k) (single_kinematics kinematics (Ok p.k) (Ok q.k) p.is_k q.is_k) in
    let same_f : p.f ≡ q.f =
    ap (families_or p.f) (single_families p.k families (Ok p.f) (Ok q.f) p.is_f (subst (λ (x : Kinematics). ReadsFamilies x families (Ok q.f)) (sym same_k) q.is_f)) in
    let again : jobs (names_of p.f) (map frame_of p.f) (parameters p.k) tree ≡ Ok q.found =
    (λ i. jobs (names_of (same_f i)) (map frame_of (same_f i)) (parameters (same_k i)) tree) ∙ q.is_job in
    let same_job : p.found ≡ q.found = ap (job_or p.found) (sym p.is_job ∙ again) in
    ap (λ (o : Outline). o.select) p.same ∙ ap (λ (job : Job). job.select) same_job ∙ sym (ap (λ (o : Outline). o.select) q.same)
