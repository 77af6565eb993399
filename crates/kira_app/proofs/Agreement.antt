-- The words and the files have one plan or one refusal, but for a divisor of the modulus.
use Rattle.std.proofs.Common.{◌≡◌, ◌⊎◌, ◌^◌, inl, inr, ℕ, Bool, true, false, cond, nat_lt, Option, None, Some, List, [], ◌∷◌, ◌++◌, length, Ok, Err, refl, sym, ap, ◌∙◌, subst, arith}
use Rattle.std.specs.Prelude.{⊤}
use Rattle.std.specs.Result.{is_ok}
use Rattle.std.specs.FinMap as map
use Rattle.std.proofs.lemmas.Bool.{true≢false}
use Rattle.yaml_text.specs.Lines.{Bytes}
use Rattle.matrix_elimination.specs.Fault.{IsProperDivisor}
use Rattle.field_word.specs.declared.Composite.{Composite as FieldComposite}
use Rattle.input_schema.specs.declared.faults.File.{File}
use Rattle.input_schema.specs.declared.faults.InputKind.TheVariants.{TooLong}
use Rattle.input_schema.specs.Readings as input
use Rattle.input_schema.proofs.Steps as input_steps
use Rattle.kira_outside.specs.Held.{Held}
use Rattle.job_schema.specs.declared.selections.ListFile.{ListFile}
use Rattle.job_schema.specs.Overridden.{Override}
use Rattle.job_point.specs.declared.faults.PlanError.{PlanError}
use Rattle.job_point.specs.declared.faults.PlanError.TheVariants as plan_error
use Rattle.job_point.specs.declared.faults.Singular.TheVariants as singular
use Rattle.job_point.specs.Steps as point
use Rattle.job_point.specs.Agreement.{IsSameFault, IsSameAnswer, NamesDivisor}
use Rattle.job_outline.specs.Laws.{OutlineIsSingle, OutlinesHaveAModulus}
use Rattle.job_plan.specs.Laws.{PlansAgree, PlansNameDivisors}
use Rattle.job_outline.specs.Outlines.{Outline}
use Rattle.job_outline.specs.Readings.{ReadsOutline}
use Rattle.job_plan.specs.Plans.{Plan, IsPlan}
use Rattle.kira_app.specs.declared.job_files.Trees.{Trees}
use Rattle.kira_app.specs.declared.status.Status.{Status}
use Rattle.kira_app.specs.declared.status.Status.TheVariants as status
use Rattle.kira_app.specs.declared.refusal.Refusal.{Refusal}
use Rattle.job_point.specs.Steps.{Is, After, Then, Each}
use Rattle.kira_app.specs.Steps.{Answer, Step, plain, OfReading, OfPlan}
use Rattle.command_line.specs.Request.{Asked}
use Rattle.command_line.specs.Request as line
use Rattle.kira_app.specs.Words.{asks, is_served, job_file, overrides_of}
use Rattle.kira_app.specs.Sources.{Sources, TreeOf, TreesOf, ListsOf, OutlineOf, ReadsSources, list_of_entry, no_list, tree_of}
use Rattle.kira_app.specs.Plans.{status_of, refusal_of, ServesAs, ServesWords, PlanOf}
use Rattle.kira_app.specs.TopClauses.{IsAlike, IsDivisorIn}
use Rattle.kira_app.specs.Laws.{AreAlike, NamesDivisorIn, JobsAgree, JobsNameDivisors}

-- ---- steps with one answer at most

abbrev Single : {A : Type 0} → Step A → Type 0
Single {A} step = (r q : Answer A) → step r → step q → r ≡ q

single_is : {A : Type 0} (answer : Answer A) → Single (Is answer)
single_is answer r q h k = sym h ∙ k

single_words : (asked : Asked) (served : Bool) → Single (ServesAs asked served)
single_words line.usage served r q h k = single_is _ r q h k
single_words line.help served r q h k = absurd h
single_words line.call served r q h k = single_is _ r q h k

single_after : {A B : Type 0} (next : A → Step B) → ((a : A) → Single (next a)) → (o : Answer A) → Single (After o next)
single_after next same (Ok a) r q h k = same a r q h k
single_after next same (Err e) r q h k = h ∙ sym k

single_then : {A B : Type 0} (first : Step A) (next : A → Step B) → Single first → ((a : A) → Single (next a)) → Single (Then first next)
single_then {A} {B} first next one same r q h k =
    let e = one h.answer k.answer h.is k.is in
    single_after next same k.answer r q (subst (λ (o : Answer A). After o next r) e h.after) k.after

single_each : {N A : Type 0} (step : List A → N → Step A) → ((found : List A) (item : N) → Single (step found item)) → (found : List A) (items : List N) → Single (Each step found items)
single_each step same found [] r q h k = h ∙ sym k
single_each step same found (item ∷ items) r q h k =
    single_then (step found item) (λ a. Each step (found ++ a ∷ []) items) (same found item) (λ a. single_each step same (found ++ a ∷ []) items) r q h k

-- ---- what is read

abbrev answer_of : {A : Type 0} → input.Outcome A → Answer A
answer_of (Ok a) = Ok a
answer_of (Err fault) = Err (plain (status.Input fault))

read_as : {A : Type 0} (reading : input.Reading A) (r : Answer A) → OfReading reading r → (o : input.Outcome A) × reading o × (r ≡ answer_of o)
read_as reading (Ok a) h = (Ok a, h, refl)
read_as reading (Err e) h = (Err h.0, h.1, ap (λ (x : Refusal). Err x) h.2)

single_reading : {A : Type 0} (reading : input.Reading A) → input.IsSingle reading → Single (OfReading reading)
single_reading reading one r q h k =
    let a = read_as reading r h in
    let b = read_as reading q k in
    a.2 ∙ ap answer_of (one a.0 b.0 a.1 b.1) ∙ sym b.2

single_tree : (file : _) (name : Bytes) (held : Held) → Single (TreeOf file name held)
single_tree file name held = single_reading _ (input_steps.is_single _)

pub single_trees : (name : Bytes) (held : Held) → Single (TreesOf name held)
single_trees name held =
    single_then _ _ (single_tree _ name held) (λ jobs.
    single_then _ _ (single_tree _ _ held) (λ families.
    single_then _ _ (single_tree _ _ held) (λ kinematics. single_is _)))

pub single_outline : OutlineIsSingle → (overrides : List Override) (trees : Trees) → Single (OutlineOf overrides trees)
single_outline law overrides trees = single_reading _ (law trees.families trees.kinematics trees.jobs overrides)

single_lists : (files : List ListFile) (held : Held) → Single (ListsOf files held)
single_lists files held = single_each _ (λ found list. single_is _) [] files

single_sources : OutlineIsSingle → (overrides : List Override) (name : Bytes) (held : Held) → Single (ReadsSources overrides name held)
single_sources law overrides name held =
    single_then _ _
    (single_then _ _ (single_trees name held) (λ trees. single_then _ _ (single_outline law overrides trees) (λ outline. single_is _)))
    (λ both. single_then _ _ (single_lists both.1.select.files held) (λ lists. single_is _))

-- ---- a value that follows a value

split : {A B : Type 0} (first : Step A) (next : A → Step B) (b : B) (o : Answer A) → first o → After o next (Ok b) → (a : A) × first (Ok a) × next a (Ok b)
split first next b (Ok a) h k = (a, h, k)
split first next b (Err e) h k = absurd (true≢false (ap is_ok k))

pub parted : {A B : Type 0} (first : Step A) (next : A → Step B) (b : B) → Then first next (Ok b) → (a : A) × first (Ok a) × next a (Ok b)
parted first next b h = split first next b h.answer h.is h.after

abbrev value_or : {A : Type 0} → A → Answer A → A
value_or d (Ok a) = a
value_or d (Err e) = d

-- the trees of sources are those that were read
pub trees_read : (overrides : List Override) (name : Bytes) (held : Held) (sources : Sources) → ReadsSources overrides name held (Ok sources) → TreesOf name held (Ok sources.trees)
trees_read overrides name held sources h =
    let one = parted _ _ sources h in
    let two = parted _ _ one.0 one.1 in
    let three = parted _ _ one.0 two.2 in
    let both : one.0 ≡ (two.0, three.0) = ap (value_or one.0) (sym three.2) in
    let four = parted _ _ sources one.2 in
    let whole : sources ≡ record { trees = one.0.0; lists = four.0 } = ap (value_or sources) (sym four.2) in
    subst (λ (t : Trees). TreesOf name held (Ok t)) (sym (ap (λ (s : Sources). s.trees) whole ∙ ap (λ (b : Trees × Outline). b.0) both)) two.1

-- ---- the plan of an outline

alike : (s : Status) → IsAlike s s
alike (status.Singular (singular.RulesOpen v)) = (v, refl)
alike (status.Singular (singular.NotBasis family v)) = (v, refl)
alike (status.Singular (singular.ZeroDivisor file line at)) = refl
alike (status.RulesClash m r) = (m, r, refl)
alike (status.Input f) = refl
alike (status.Composite f) = refl
alike (status.TooMany what count) = refl
alike status.Ok = refl
alike status.Usage = refl
alike status.NotYet = refl
alike status.ReadFault = refl
alike status.WriteFault = refl
alike status.OutOfMemory = refl

same_alike : (r q : Answer Plan) → r ≡ q → AreAlike r q
same_alike (Ok plan) q e = sym e
same_alike (Err refusal) q e = (refusal, sym e, alike refusal.status)

alike_errors : (e f : PlanError) → IsSameFault e f → IsAlike (status_of e) (status_of f)
alike_errors (plan_error.Singular (singular.RulesOpen v)) f h = (h.0, ap status_of h.1)
alike_errors (plan_error.Singular (singular.NotBasis family v)) f h = (h.0, ap status_of h.1)
alike_errors (plan_error.Singular (singular.ZeroDivisor file line at)) f h = ap status_of h
alike_errors (plan_error.RulesClash m r) f h = (h.0, h.1, ap status_of h.2)
alike_errors (plan_error.Input fault) f h = ap status_of h
alike_errors (plan_error.Composite fault) f h = ap status_of h
alike_errors (plan_error.TooMany what count) f h = ap status_of h
alike_errors plan_error.OutOfMemory f h = ap status_of h

module _ (words : List Bytes) (held : Held) (trees : Trees) (read : TreesOf (job_file words) held (Ok trees)) (outline : Outline) (outlined : OutlineOf (overrides_of words) trees (Ok outline)) where
  abbrev told : point.Answer Plan → Answer Plan
  told (Ok plan) = Ok plan
  told (Err e) = Err (refusal_of outline e)

  planned_as : (step : point.Step Plan) (r : Answer Plan) → OfPlan (refusal_of outline) step r → (o : point.Answer Plan) × step o × (r ≡ told o)
  planned_as step (Ok plan) h = (Ok plan, h, refl)
  planned_as step (Err e) h = (Err h.0, h.1, ap (λ (x : Refusal). Err x) h.2)

  named : (divisor : ℕ) → IsProperDivisor outline.point.prime divisor → IsDivisorIn words divisor held
  named divisor d = record { trees = trees; read = read; outline = outline; outlined = outlined; divides = record { above_1 = d.above; below = d.below; divides = d.divides } }

  told_names : (o : point.Answer Plan) → NamesDivisor outline.point.prime o → NamesDivisorIn words held (told o)
  told_names (Ok plan) d = absurd d
  told_names (Err (plan_error.Composite fault)) d = (fault, refl, named fault.divisor d)
  told_names (Err (plan_error.Singular cause)) d = absurd d
  told_names (Err (plan_error.RulesClash m r)) d = absurd d
  told_names (Err (plan_error.Input fault)) d = absurd d
  told_names (Err (plan_error.TooMany what count)) d = absurd d
  told_names (Err plan_error.OutOfMemory) d = absurd d

  told_alike : (o p : point.Answer Plan) → IsSameAnswer o p → AreAlike (told o) (told p)
  told_alike (Ok plan) p e = ap told e
  told_alike (Err e) p h = (refusal_of outline h.0, ap told h.1, alike_errors e h.0 h.2)

  told_agree : (o p : point.Answer Plan) (r q : Answer Plan) → r ≡ told o → q ≡ told p → IsSameAnswer o p ⊎ (NamesDivisor outline.point.prime o ⊎ NamesDivisor outline.point.prime p) →
      AreAlike r q ⊎ (NamesDivisorIn words held r ⊎ NamesDivisorIn words held q)
  told_agree o p r q is also (inl e) = inl (subst (λ (x : Answer Plan). AreAlike x q) (sym is) (subst (λ (x : Answer Plan). AreAlike (told o) x) (sym also) (told_alike o p e)))
  told_agree o p r q is also (inr (inl d)) = inr (inl (subst (NamesDivisorIn words held) (sym is) (told_names o d)))
  told_agree o p r q is also (inr (inr d)) = inr (inr (subst (NamesDivisorIn words held) (sym also) (told_names p d)))

  outline_agrees : OutlinesHaveAModulus → PlansAgree → (lists : List Bytes) (r q : Answer Plan) → OfPlan (refusal_of outline) (IsPlan outline lists) r → OfPlan (refusal_of outline) (IsPlan outline lists) q →
      AreAlike r q ⊎ (NamesDivisorIn words held r ⊎ NamesDivisorIn words held q)
  outline_agrees moduli law lists r q h k =
      let a = planned_as (IsPlan outline lists) r h in
      let b = planned_as (IsPlan outline lists) q k in
      let least = (moduli trees.families trees.kinematics trees.jobs (overrides_of words) outline outlined).from_3 in
      told_agree a.0 b.0 r q a.2 b.2 (law outline lists (omega (arith, least)) a.0 b.0 a.1 b.1)

-- ---- the whole

module _ (single : OutlineIsSingle) (moduli : OutlinesHaveAModulus) (law : PlansAgree) (words : List Bytes) (held : Held) where
  abbrev Agreeing : Step Plan → Type 0
  Agreeing step = (r q : Answer Plan) → step r → step q → AreAlike r q ⊎ (NamesDivisorIn words held r ⊎ NamesDivisorIn words held q)

  after_agrees : {A : Type 0} (first : Step A) (next : A → Step Plan) → ((a : A) → first (Ok a) → Agreeing (next a)) → (o : Answer A) → first o → Agreeing (After o next)
  after_agrees first next same (Ok a) is r q h k = same a is r q h k
  after_agrees first next same (Err e) is r q h k = inl (same_alike r q (h ∙ sym k))

  then_agrees : {A : Type 0} (first : Step A) (next : A → Step Plan) → Single first → ((a : A) → first (Ok a) → Agreeing (next a)) → Agreeing (Then first next)
  then_agrees {A} first next one same r q h k =
      let e = one h.answer k.answer h.is k.is in
      after_agrees first next same k.answer k.is r q (subst (λ (o : Answer A). After o next r) e h.after) k.after

  job_agrees : Agreeing (PlanOf words held)
  job_agrees =
      then_agrees _ _ (single_words (asks words) (is_served words)) (λ _ served.
      then_agrees _ _ (single_sources single (overrides_of words) (job_file words) held) (λ sources read.
      then_agrees _ _ (single_outline single (overrides_of words) sources.trees) (λ outline outlined.
      outline_agrees words held sources.trees (trees_read (overrides_of words) (job_file words) held sources read) outline outlined moduli law sources.lists)))

pub jobs_agree : OutlineIsSingle → OutlinesHaveAModulus → PlansAgree → JobsAgree
jobs_agree single moduli law words held = job_agrees single moduli law words held

-- ---- divisors

abbrev refusal_or : {A : Type 0} → Refusal → Answer A → Refusal
refusal_or d (Ok a) = d
refusal_or d (Err e) = e

abbrev is_composite : Status → Bool
is_composite (status.Composite f) = true
is_composite _ = false

abbrev divisor_or : Status → ℕ
divisor_or (status.Composite f) = f.divisor
divisor_or _ = 0

-- no refusal of the step names a divisor
abbrev NoDivisor : {A : Type 0} → Step A → Type 0
NoDivisor step = (refusal : Refusal) → step (Err refusal) → is_composite refusal.status ≡ false

abbrev IsFree : {A : Type 0} → Answer A → Type 0
IsFree (Ok a) = ⊤
IsFree (Err e) = is_composite e.status ≡ false

free_at : {A : Type 0} (answer r : Answer A) → answer ≡ r → IsFree answer → IsFree r
free_at {A} answer r e h = subst (λ (x : Answer A). IsFree x) e h

none_is : {A : Type 0} (answer : Answer A) → IsFree answer → NoDivisor (Is answer)
none_is answer free refusal h = free_at answer (Err refusal) h free

none_reading : {A : Type 0} (reading : input.Reading A) → NoDivisor (OfReading reading)
none_reading reading refusal h = ap (λ (x : Refusal). is_composite x.status) h.2

abbrev names_one : {A : Type 0} → Answer A → Bool
names_one (Ok a) = false
names_one (Err e) = is_composite e.status

none_after : {A B : Type 0} (first : Step A) (next : A → Step B) → NoDivisor first → ((a : A) → NoDivisor (next a)) → (o : Answer A) → first o → NoDivisor (After o next)
none_after first next one more (Ok a) is refusal h = more a refusal h
none_after {A} {B} first next one more (Err e) is refusal h = ap names_one h ∙ one e is

none_then : {A B : Type 0} (first : Step A) (next : A → Step B) → NoDivisor first → ((a : A) → NoDivisor (next a)) → NoDivisor (Then first next)
none_then first next one more refusal h = none_after first next one more h.answer h.is refusal h.after

none_each : {N A : Type 0} (step : List A → N → Step A) → ((found : List A) (item : N) → NoDivisor (step found item)) → (found : List A) (items : List N) → NoDivisor (Each step found items)
none_each step one found [] refusal h = absurd (true≢false (sym (ap is_ok h)))
none_each step one found (item ∷ items) refusal h = none_then (step found item) (λ a. Each step (found ++ a ∷ []) items) (one found item) (λ a. none_each step one (found ++ a ∷ []) items) refusal h

free_if : {A : Type 0} (b : Bool) (x y : Answer A) → IsFree x → IsFree y → IsFree (cond b x y)
free_if true x y h k = h
free_if false x y h k = k

free_entry : (number : ℕ) (name : Bytes) (entry : Option Bytes) → IsFree (list_of_entry number name entry)
free_entry number name None = refl
free_entry number name (Some bytes) = free_if (nat_lt (2 ^ 24) (length bytes)) (Err (no_list number name TooLong)) (Ok bytes) refl tt

none_served : (asked : Asked) (served : Bool) → NoDivisor (ServesAs asked served)
none_served line.usage served = none_is (Err (plain status.Usage)) refl
none_served line.help served = λ refusal h. absurd h
none_served line.call served = none_is _ (free_if served (Ok tt) (Err (plain status.NotYet)) tt refl)

none_tree : (file : File) (name : Bytes) (held : Held) → NoDivisor (TreeOf file name held)
none_tree file name held = none_reading (input.Is (tree_of file name held))

none_outline : (overrides : List Override) (trees : Trees) → NoDivisor (OutlineOf overrides trees)
none_outline overrides trees = none_reading (ReadsOutline trees.families trees.kinematics trees.jobs overrides)

none_trees : (name : Bytes) (held : Held) → NoDivisor (TreesOf name held)
none_trees name held =
    none_then _ _ (none_tree _ name held) (λ jobs. none_then _ _ (none_tree _ _ held) (λ families. none_then _ _ (none_tree _ _ held) (λ kinematics. none_is _ tt)))

none_sources : (overrides : List Override) (name : Bytes) (held : Held) → NoDivisor (ReadsSources overrides name held)
none_sources overrides name held =
    none_then _ _
    (none_then _ _ (none_trees name held) (λ trees. none_then _ _ (none_outline overrides trees) (λ outline. none_is _ tt)))
    (λ both. none_then _ _ (none_each _ (λ found list. none_is _ (free_entry (length found) list.name (map.get held list.name))) [] both.1.select.files) (λ lists. none_is _ tt))

module _ (moduli : OutlinesHaveAModulus) (law : PlansNameDivisors) (words : List Bytes) (held : Held) (fault : FieldComposite) where
  abbrev Naming : {A : Type 0} → Step A → Type 0
  Naming step = (refusal : Refusal) → step (Err refusal) → refusal.status ≡ status.Composite fault → IsDivisorIn words fault.divisor held

  names_none : {A : Type 0} (step : Step A) → NoDivisor step → Naming step
  names_none step none refusal h e = absurd (true≢false (sym (ap is_composite e) ∙ none refusal h))

  names_after : {A B : Type 0} (first : Step A) (next : A → Step B) → Naming first → ((a : A) → first (Ok a) → Naming (next a)) → (o : Answer A) → first o → Naming (After o next)
  names_after first next one more (Ok a) is refusal h e = more a is refusal h e
  names_after {A} {B} first next one more (Err x) is refusal h e = one x is (sym (ap (λ (y : Refusal). y.status) (ap (refusal_or refusal) h)) ∙ e)

  names_then : {A B : Type 0} (first : Step A) (next : A → Step B) → Naming first → ((a : A) → first (Ok a) → Naming (next a)) → Naming (Then first next)
  names_then first next one more refusal h e = names_after first next one more h.answer h.is refusal h.after e

  outline_names : (trees : Trees) → TreesOf (job_file words) held (Ok trees) → (outline : Outline) → OutlineOf (overrides_of words) trees (Ok outline) → (lists : List Bytes) → Naming (OfPlan (refusal_of outline) (IsPlan outline lists))
  outline_names trees read outline outlined lists refusal h e = by h.0 h.1 (sym (ap (λ (x : Refusal). x.status) h.2) ∙ e)
    where
      by : (x : PlanError) → IsPlan outline lists (Err x) → status_of x ≡ status.Composite fault → IsDivisorIn words fault.divisor held
      by (plan_error.Composite f) is same =
          let least = (moduli trees.families trees.kinematics trees.jobs (overrides_of words) outline outlined).from_3 in
          subst (λ d. IsDivisorIn words d held) (ap divisor_or same) (named words held trees read outline outlined f.divisor (law outline lists (omega (arith, least)) f is))
      by (plan_error.Singular cause) is same = absurd (true≢false (sym (ap is_composite same)))
      by (plan_error.RulesClash m r) is same = absurd (true≢false (sym (ap is_composite same)))
      by (plan_error.Input f) is same = absurd (true≢false (sym (ap is_composite same)))
      by (plan_error.TooMany what count) is same = absurd (true≢false (sym (ap is_composite same)))
      by plan_error.OutOfMemory is same = absurd (true≢false (sym (ap is_composite same)))

  job_names : Naming (PlanOf words held)
  job_names =
      names_then _ _ (names_none (ServesWords words) (none_served (asks words) (is_served words))) (λ _ served.
      names_then _ _ (names_none (ReadsSources (overrides_of words) (job_file words) held) (none_sources (overrides_of words) (job_file words) held)) (λ sources read.
      names_then _ _ (names_none (OutlineOf (overrides_of words) sources.trees) (none_outline (overrides_of words) sources.trees)) (λ outline outlined.
      outline_names sources.trees (trees_read (overrides_of words) (job_file words) held sources read) outline outlined sources.lists)))

pub jobs_name_divisors : OutlinesHaveAModulus → PlansNameDivisors → JobsNameDivisors
jobs_name_divisors moduli law words held refusal fault h e = job_names moduli law words held fault refusal h e
