-- From what a call answers to its cause, and back.
use Rattle.std.proofs.Common.{◌≡◌, ◌≢◌, ◌⊎◌, inl, inr, ℕ, Bool, true, false, Option, Some, List, [], Ok, Err, IfErr, Result, refl, sym, ap, ◌∙◌, subst, arith}
use Rattle.std.specs.Result.{is_ok, IsErrAnd}
use Rattle.std.proofs.lemmas.Bool.{true≢false}
use Rattle.yaml_text.specs.Lines.{Bytes}
use Rattle.field_word.specs.declared.Composite.{Composite}
use Rattle.kira_outside.specs.Faults.{Rose}
use Rattle.kira_outside.specs.Held.{Held}
use Rattle.kinematics_schema.specs.declared.content.Kinematics.{Kinematics}
use Rattle.family_schema.specs.declared.content.Family.{Family}
use Rattle.job_schema.specs.Overridden.{Override}
use Rattle.job_point.specs.declared.points.AtPoint.{AtPoint}
use Rattle.job_point.specs.Steps as point
use Rattle.job_point.specs.Point.{IsAtPoint}
use Rattle.job_outline.specs.Laws.{OutlineIsSingle, OutlinesNeverSayMissing}
use Rattle.job_plan.specs.Laws.{PlansNeverSayMissing}
use Rattle.job_outline.specs.Outlines.{Outline}
use Rattle.job_plan.specs.Plans.{Plan, IsPlan}
use Rattle.kira_app.specs.declared.job_files.Trees.{Trees}
use Rattle.kira_app.specs.declared.status.Status.{Status}
use Rattle.kira_app.specs.declared.status.Status.TheVariants as status
use Rattle.kira_app.specs.declared.refusal.Refusal.{Refusal}
use Rattle.job_point.specs.Steps.{After, Then}
use Rattle.kira_app.specs.Steps.{Answer, plain, OfPlan}
use Rattle.kira_app.specs.Told.{IfTold, ByStatus, Answers, RefusesTold, Tells, SaysMissing, IsMissed, IsCounted}
use Rattle.command_line.specs.Request.{Asked}
use Rattle.command_line.specs.Request as line
use Rattle.kira_app.specs.Words.{asks, is_served, job_file, overrides_of, AreAnswered, AsksHelp}
use Rattle.kira_app.specs.Sources.{Sources, TreesOf, OutlineOf, ReadsSources}
use Rattle.kira_app.specs.Plans.{refusal_of, PlanOfSources, ServesAs, ServesWords, PlanOf}
use Rattle.kira_app.specs.TopClauses.{HavePlan, AreRefusedAs, IsDivisor, IsDivisorIn, NamesDivisor, IsStopped, IsPrime, IsReductionFault, StandsStill, Around, IsRefusal, HasCause, HasEnded, IsAlike, IsAnsweredBy}
use Rattle.kira_app.specs.Laws.{AreAlike, NamesDivisorIn, JobsAgree, JobsNameDivisors, JobsHaveOneModulus}
use Rattle.kira_app.proofs.Told.{weaker, always, then_is, then_refused, refused_first, next_answers, missing_said, still_count}
use Rattle.kira_app.proofs.Present.{outline_present, plan_present}
use Rattle.kira_app.proofs.Agreement.{parted, trees_read, single_trees, single_outline}

-- ---- a plan, taken apart

point_split : {A B : Type 0} (first : point.Step A) (next : A → point.Step B) (b : B) (o : point.Answer A) → first o → point.After o next (Ok b) → (a : A) × first (Ok a) × next a (Ok b)
point_split first next b (Ok a) h k = (a, h, k)
point_split first next b (Err e) h k = absurd (true≢false (ap is_ok k))

point_parted : {A B : Type 0} (first : point.Step A) (next : A → point.Step B) (b : B) → point.Then first next (Ok b) → (a : A) × first (Ok a) × next a (Ok b)
point_parted first next b h = point_split first next b h.answer h.is h.after

abbrev modulus_or : ℕ → point.Answer AtPoint → ℕ
modulus_or d (Ok at) = at.modulus
modulus_or d (Err e) = d

at_modulus : (p : ℕ) (kinematics : Kinematics) (families : List Family) (settings : _) (at : AtPoint) → IsAtPoint p kinematics families settings (Ok at) → at.modulus ≡ p
at_modulus p kinematics families settings at h =
    let one = point_parted _ _ at h in
    let two = point_parted _ _ at one.2 in
    let three = point_parted _ _ at two.2 in
    ap (modulus_or p) (sym three.2)

-- the outline that a plan comes from
record Planned (words : List Bytes) (held : Held) (plan : Plan) : Type 0 where
  trees : Trees
  read : TreesOf (job_file words) held (Ok trees)
  outline : Outline
  outlined : OutlineOf (overrides_of words) trees (Ok outline)
  modulus : plan.modulus ≡ outline.point.prime

planned : (words : List Bytes) (held : Held) (plan : Plan) → PlanOf words held (Ok plan) → Planned words held plan
planned words held plan h =
    let one = parted _ _ plan h in
    let two = parted _ _ plan one.2 in
    let three = parted _ _ plan two.2 in
    let four = point_parted _ _ plan three.2 in
    let five = point_parted _ _ plan four.2 in
    record {
      trees = two.0.trees;
      read = trees_read (overrides_of words) (job_file words) held two.0 two.1;
      outline = three.0;
      outlined = three.1;
      modulus = five.2.modulus ∙ at_modulus three.0.point.prime three.0.kinematics three.0.families three.0.point.settings five.0 five.1;
    }

-- ---- divisors of the modulus

divisor_of_plan : (words : List Bytes) (held : Held) (plan : Plan) (divisor : ℕ) → PlanOf words held (Ok plan) → IsDivisor plan.modulus divisor → IsDivisorIn words divisor held
divisor_of_plan words held plan divisor h d =
    let from = planned words held plan h in
    record { trees = from.trees; read = from.read; outline = from.outline; outlined = from.outlined; divides = subst (λ p. IsDivisor p divisor) from.modulus d }

abbrev trees_or : Trees → Answer Trees → Trees
trees_or d (Ok trees) = trees
trees_or d (Err e) = d

abbrev outline_or : Outline → Answer Outline → Outline
outline_or d (Ok outline) = outline
outline_or d (Err e) = d

pub jobs_have_one_modulus : OutlineIsSingle → JobsHaveOneModulus
jobs_have_one_modulus single words held plan divisor h d =
    let from = planned words held plan h in
    let trees : d.trees ≡ from.trees = ap (trees_or d.trees) (single_trees (job_file words) held (Ok d.trees) (Ok from.trees) d.read from.read) in
    let outlined : OutlineOf (overrides_of words) from.trees (Ok d.outline) = subst (λ (t : Trees). OutlineOf (overrides_of words) t (Ok d.outline)) trees d.outlined in
    let outline : d.outline ≡ from.outline = ap (outline_or d.outline) (single_outline single (overrides_of words) from.trees (Ok d.outline) (Ok from.outline) outlined from.outlined) in
    subst (λ p. IsDivisor p divisor) (ap (λ (o : Outline). o.point.prime) outline ∙ sym from.modulus) d.divides

no_divisor : (p divisor : ℕ) → IsPrime p → IsDivisor p divisor → ⊥
no_divisor p divisor prime d = by (prime.only divisor d.divides)
  where
    by : (divisor ≡ 1) ⊎ (divisor ≡ p) → ⊥
    by (inl e) = omega (arith, e, d.above_1)
    by (inr e) = omega (arith, e, d.below)

-- ---- the plan of the words and the files

served_by : (asked : Asked) (served : Bool) → asked ≡ line.call → served ≡ true → ServesAs asked served (Ok tt)
served_by asked served is fits = subst (λ (a : Asked). ServesAs a served (Ok tt)) (sym is) (subst (λ (b : Bool). ServesAs line.call b (Ok tt)) (sym fits) refl)

pub plan_told : (held : Option Held) (before now : ℕ) (words : List Bytes) (given used : List Override) (name : Bytes) (sources : Sources) (r : Answer Plan) →
    asks words ≡ line.call → is_served words ≡ true → given ≡ overrides_of words → used ≡ overrides_of words → name ≡ job_file words → now ≡ before →
    IfTold held (λ files. ReadsSources given name files (Ok sources)) → Answers (PlanOfSources used sources) r → Tells held before now (PlanOf words) r
plan_told held before now words given used name sources r called served is_given is_used is_name count read h =
    let overrides = overrides_of words in
    next_answers held before now (λ files. ReadsSources given name files (Ok sources)) (PlanOfSources overrides sources) (PlanOf words) r count
    (λ files o found after. then_is (ServesWords words) (λ _. Then (ReadsSources overrides (job_file words) files) (PlanOfSources overrides)) tt o (served_by (asks words) (is_served words) called served)
    (then_is (ReadsSources overrides (job_file words) files) (PlanOfSources overrides) sources o
    (subst (λ (n : Bytes). ReadsSources overrides n files (Ok sources)) is_name (subst (λ (g : List Override). ReadsSources g name files (Ok sources)) is_given found)) after))
    read (subst (λ (u : List Override). Answers (PlanOfSources u sources) r) is_used h)

-- the sources are refused
pub sources_refused : (held : Option Held) (before now : ℕ) (words : List Bytes) (given : List Override) (name : Bytes) (e : Refusal) →
    asks words ≡ line.call → is_served words ≡ true → given ≡ overrides_of words → name ≡ job_file words →
    RefusesTold held before now (λ files. ReadsSources given name files) e → RefusesTold held before now (PlanOf words) e
sources_refused held before now words given name e called served is_given is_name h =
    let overrides = overrides_of words in
    refused_first held before now (λ files. ReadsSources given name files) (PlanOf words)
    (λ files x found.
    then_is (ServesWords words) (λ _. Then (ReadsSources overrides (job_file words) files) (PlanOfSources overrides)) tt (Err x) (served_by (asks words) (is_served words) called served)
    (then_refused (ReadsSources overrides (job_file words) files) (PlanOfSources overrides) x
    (subst (λ (n : Bytes). ReadsSources overrides n files (Err x)) is_name (subst (λ (g : List Override). ReadsSources g name files (Err x)) is_given found))))
    e h

-- ---- a file that is said to be missing

abbrev refusal_or : Refusal → Answer Plan → Refusal
refusal_or d (Ok plan) = d
refusal_or d (Err e) = e

present_after : OutlinesNeverSayMissing → PlansNeverSayMissing → (overrides : List Override) (sources : Sources) (e : Refusal) (o : Answer Outline) → OutlineOf overrides sources.trees o →
    After o (λ outline. OfPlan (refusal_of outline) (IsPlan outline sources.lists)) (Err e) → SaysMissing e.status → ⊥
present_after outlines plans overrides sources e (Ok outline) is h missing = plan_present plans outline sources.lists e h missing
present_after outlines plans overrides sources e (Err x) is h missing =
    let same : e ≡ x = ap (refusal_or e) h in
    outline_present outlines overrides sources.trees x is (subst (λ (r : Refusal). SaysMissing r.status) same missing)

pub missing_in : OutlinesNeverSayMissing → PlansNeverSayMissing → (held : Option Held) (before now : ℕ) (overrides : List Override) (sources : Sources) (r : Answer Plan) →
    Answers (PlanOfSources overrides sources) r → IfErr r (λ (refusal : Refusal). IsMissed held before now refusal.status)
missing_in outlines plans held before now overrides sources (Ok plan) h = tt
missing_in outlines plans held before now overrides sources (Err e) h = λ untold missing.
    let read = missing_said e.status _ _ missing h in
    absurd (present_after outlines plans overrides sources e read.answer read.is read.after missing)

-- ---- how a call ends

abbrev is_fine : Status → Bool
is_fine status.Ok = true
is_fine _ = false

abbrev IsCaused : Around → Status → Bytes → Type 0
IsCaused a s name = (s ≢ status.Ok) × HasCause a s name

unfine : (s : Status) → is_fine s ≡ false → s ≢ status.Ok
unfine s other e = true≢false (sym (ap is_fine e) ∙ other)

-- a refusal of the plan
pub plan_caused : (a : Around) (s : Status) (name : Bytes) → ByStatus s (Rose a.faults a.faults_after) (IsRefusal a s name) → IsCaused a s name
plan_caused a status.OutOfMemory name h = (unfine status.OutOfMemory refl, tt)
plan_caused a status.ReadFault name h = (unfine status.ReadFault refl, h)
plan_caused a status.Ok name h = absurd h
plan_caused a status.WriteFault name h = absurd h
plan_caused a (status.Input f) name h = (unfine (status.Input f) refl, h)
plan_caused a (status.Singular c) name h = (unfine (status.Singular c) refl, h)
plan_caused a (status.RulesClash m r) name h = (unfine (status.RulesClash m r) refl, h)
plan_caused a (status.TooMany what count) name h = (unfine (status.TooMany what count) refl, h)
plan_caused a status.Usage name h = absurd h
plan_caused a status.NotYet name h = absurd h
plan_caused a (status.Composite f) name h =
    (unfine (status.Composite f) refl, (weaker a.held _ _ (λ files is. inl (name, is)) h.0, still_count a.held a.faults a.faults_after (status.Composite f) (λ missing. missing) h.1))

-- a refusal of the reduction
pub reduction_caused : (a : Around) (plan : Plan) (s : Status) → IfTold a.held (λ files. PlanOf a.words files (Ok plan)) → a.faults_after ≡ a.faults → IsReductionFault plan.modulus s → IsCaused a s []
reduction_caused a plan (status.Composite f) told count h = (unfine (status.Composite f) refl, (weaker a.held _ _ (λ files is. inr (record { plan = plan; is = is; holds = h })) told, count))
reduction_caused a plan status.OutOfMemory told count h = (unfine status.OutOfMemory refl, tt)
reduction_caused a plan status.Ok told count h = absurd h
reduction_caused a plan status.Usage told count h = absurd h
reduction_caused a plan status.NotYet told count h = absurd h
reduction_caused a plan (status.Input f) told count h = absurd h
reduction_caused a plan (status.Singular c) told count h = absurd h
reduction_caused a plan (status.RulesClash m r) told count h = absurd h
reduction_caused a plan (status.TooMany what n) told count h = absurd h
reduction_caused a plan status.ReadFault told count h = absurd h
reduction_caused a plan status.WriteFault told count h = absurd h

-- ---- words that no job is read for

unserved : (asked : Asked) (served : Bool) → asked ≡ line.call → served ≡ false → ServesAs asked served (Err (plain status.NotYet))
unserved asked served is none = subst (λ (a : Asked). ServesAs a served (Err (plain status.NotYet))) (sym is) (subst (λ (b : Bool). ServesAs line.call b (Err (plain status.NotYet))) (sym none) refl)

refused_words : (words : List Bytes) (held : Held) (e : Refusal) → ServesWords words (Err e) → PlanOf words held (Err e)
refused_words words held e is = then_refused (ServesWords words) (λ _. Then (ReadsSources (overrides_of words) (job_file words) held) (PlanOfSources (overrides_of words))) e is

pub answered_caused : (a : Around) (s : Status) → a.faults_after ≡ a.faults → AreAnswered a.words s → IsCaused a s []
answered_caused a status.Usage count h =
    (unfine status.Usage refl, (h, (always a.held _ (λ files. refused_words a.words files (plain status.Usage) (subst (λ (q : Asked). ServesAs q (is_served a.words) (Err (plain status.Usage))) (sym h) refl)), inl count)))
answered_caused a status.NotYet count h =
    (unfine status.NotYet refl, (h, (always a.held _ (λ files. refused_words a.words files (plain status.NotYet) (unserved (asks a.words) (is_served a.words) h.0 h.1)), inl count)))
answered_caused a status.OutOfMemory count h = (unfine status.OutOfMemory refl, tt)
answered_caused a status.Ok count h = absurd h
answered_caused a (status.Input f) count h = absurd h
answered_caused a (status.Singular c) count h = absurd h
answered_caused a (status.RulesClash m r) count h = absurd h
answered_caused a (status.Composite f) count h = absurd h
answered_caused a (status.TooMany what n) count h = absurd h
answered_caused a status.ReadFault count h = absurd h
answered_caused a status.WriteFault count h = absurd h

-- words that ask for the usage line have neither a plan nor a refusal
pub help_has_no_plan : (words : List Bytes) (held : Held) (r : Answer Plan) → AsksHelp words → PlanOf words held r → ⊥
help_has_no_plan words held r help h = nothing h.answer (subst (λ (q : Asked). ServesAs q (is_served words) h.answer) help h.is)
  where
    nothing : (o : Answer (Unit {0})) → ServesAs line.help (is_served words) o → ⊥
    nothing o none = none

pub plainly_caused : (a : Around) (s : Status) (r : Refusal) → r ≡ plain s → IsCaused a s [] → IsCaused a r.status r.name
plainly_caused a s r is h = subst (λ (x : Refusal). IsCaused a x.status x.name) (sym is) h

-- where no step was taken, none was for any answer
pub no_step : (n : ℕ) (s : Status) → StandsStill n n s
no_step n status.Ok = tt
no_step n status.WriteFault = tt
no_step n (status.Composite fault) = tt
no_step n status.OutOfMemory = tt
no_step n status.Usage = refl
no_step n status.NotYet = refl
no_step n (status.Input fault) = refl
no_step n (status.Singular cause) = refl
no_step n (status.RulesClash multipliers residue) = refl
no_step n (status.TooMany what count) = refl
no_step n status.ReadFault = refl

-- a reduction that gives no table may have taken some
pub broken_off : (p before after : ℕ) (s : Status) (r : Refusal) → r ≡ plain s → IsReductionFault p s → StandsStill before after r.status
broken_off p before after s r is h = subst (λ (x : Refusal). StandsStill before after x.status) (sym is) (by_status s h)
  where
    by_status : (s : Status) → IsReductionFault p s → StandsStill before after s
    by_status (status.Composite fault) h = tt
    by_status status.OutOfMemory h = tt
    by_status status.Ok h = absurd h
    by_status status.WriteFault h = absurd h
    by_status status.Usage h = absurd h
    by_status status.NotYet h = absurd h
    by_status (status.Input fault) h = absurd h
    by_status (status.Singular cause) h = absurd h
    by_status (status.RulesClash multipliers residue) h = absurd h
    by_status (status.TooMany what count) h = absurd h
    by_status status.ReadFault h = absurd h

-- what `?` answers
pub err_ended : (a : Around) (r : Result (Unit {0}) Refusal) (e : Refusal) → IsErrAnd r (λ x. x ≡ e) → IsCaused a e.status e.name → HasEnded a r
err_ended a (Ok u) e h k = absurd h
err_ended a (Err x) e h k = subst (λ (y : Refusal). IsCaused a y.status y.name) (sym h) k

-- ---- where the files are told

abbrev told_at : (held : Option Held) (files : Held) (P : Held → Type 0) → held ≡ Some files → IfTold held P → P files
told_at held files P e h = subst (λ (o : Option Held). IfTold o P) e h

no_plan : (plan : Plan) (e : Refusal) → ◌≡◌ {A = Answer Plan} (Err e) (Ok plan) → ⊥
no_plan plan e h = true≢false (sym (ap is_ok h))

module _ (agree : JobsAgree) (one : JobsHaveOneModulus) (a : Around) (files : Held) (told : a.held ≡ Some files) where
  -- a refusal and a plan
  plan_or_refusal : (plan : Plan) (e : Refusal) → AreAlike (Ok plan) (Err e) ⊎ (NamesDivisorIn a.words files (Ok plan) ⊎ NamesDivisorIn a.words files (Err e)) → NamesDivisor a.words files e.status
  plan_or_refusal plan e (inl h) = absurd (no_plan plan e h)
  plan_or_refusal plan e (inr (inl d)) = absurd d
  plan_or_refusal plan e (inr (inr d)) = d

  -- two refusals, of which the second is the answer
  two_refusals : (e x : Refusal) → PlanOf a.words files (Err x) → AreAlike (Err e) (Err x) ⊎ (NamesDivisorIn a.words files (Err e) ⊎ NamesDivisorIn a.words files (Err x)) → IsAnsweredBy a.words files e.status x.status
  two_refusals e x is (inl h) = inl (subst (λ (y : Refusal). IsAlike e.status y.status) (sym (ap (refusal_or x) h.1)) h.2)
  two_refusals e x is (inr (inl d)) = inr (inr (inl d))
  two_refusals e x is (inr (inr d)) = inr (inr (inr (d, (x.name, is))))

  module _ (e : Refusal) (refused : PlanOf a.words files (Err e)) (quiet : ¬ (Rose a.faults a.faults_after)) where
    also_planned : (s : Status) (P : Plan → Type 0) → HavePlan a.words P files → IsAnsweredBy a.words files e.status s
    also_planned s P found = inr (inr (inl (plan_or_refusal found.plan e (agree a.words files (Ok found.plan) (Err e) found.is refused))))

    also_refused : (s : Status) (name : Bytes) → AreRefusedAs a.words s name files → IsAnsweredBy a.words files e.status s
    also_refused s name is =
        let x : Refusal = record { status = s; name = name } in
        two_refusals e x is (agree a.words files (Err e) (Err x) refused is)

    also_stopped : (fault : Composite) → IsStopped a.words fault files → IsAnsweredBy a.words files e.status (status.Composite fault)
    also_stopped fault (inl refusal) = also_refused (status.Composite fault) refusal.0 refusal.1
    also_stopped fault (inr found) = also_planned (status.Composite fault) (λ plan. IsDivisor plan.modulus fault.divisor) found

    also_named : (s : Status) (name : Bytes) → IsRefusal a s name → IsAnsweredBy a.words files e.status s
    also_named s name h = also_refused s name (told_at a.held files (AreRefusedAs a.words s name) told h.0)

    -- the first refusal is the answer
    pub refusal_answered : (s : Status) (name : Bytes) → HasCause a s name → IsAnsweredBy a.words files e.status s
    refusal_answered status.Ok name h = also_planned status.Ok _ (told_at a.held files _ told h.0)
    refusal_answered status.WriteFault name h = also_planned status.WriteFault _ (told_at a.held files _ told h.0)
    refusal_answered (status.Composite f) name h = also_stopped f (told_at a.held files (IsStopped a.words f) told h.0)
    refusal_answered status.ReadFault name h = absurd (quiet h)
    refusal_answered status.OutOfMemory name h = inr (inl refl)
    refusal_answered (status.Input f) name h = also_named (status.Input f) name h
    refusal_answered (status.Singular c) name h = also_named (status.Singular c) name h
    refusal_answered (status.RulesClash m r) name h = also_named (status.RulesClash m r) name h
    refusal_answered (status.TooMany what count) name h = also_named (status.TooMany what count) name h
    refusal_answered status.Usage name h = also_named status.Usage name h.1
    refusal_answered status.NotYet name h = also_named status.NotYet name h.1

  module _ (plan : Plan) (is : PlanOf a.words files (Ok plan)) (prime : IsPrime plan.modulus) (quiet : ¬ (Rose a.faults a.faults_after)) (calm : ¬ (Rose a.out_faults a.out_faults_after)) where
    none_divides : (divisor : ℕ) → IsDivisorIn a.words divisor files → ⊥
    none_divides divisor d = no_divisor plan.modulus divisor prime (one a.words files plan divisor is d)

    none_refused : (s : Status) (name : Bytes) → AreRefusedAs a.words s name files → ⊥
    none_refused s name refused =
        let x : Refusal = record { status = s; name = name } in
        let d = plan_or_refusal plan x (agree a.words files (Ok plan) (Err x) is refused) in
        none_divides d.0.divisor d.2

    none_stops : (fault : Composite) → IsStopped a.words fault files → ⊥
    none_stops fault (inl refusal) = none_refused (status.Composite fault) refusal.0 refusal.1
    none_stops fault (inr found) = none_divides fault.divisor (divisor_of_plan a.words files found.plan fault.divisor found.is found.holds)

    none_named : (s : Status) (name : Bytes) → IsRefusal a s name → ⊥
    none_named s name h = none_refused s name (told_at a.held files (AreRefusedAs a.words s name) told h.0)

    -- a job with a plan has a table
    pub complete : (s : Status) (name : Bytes) → HasCause a s name → (s ≡ status.Ok) ⊎ (s ≡ status.OutOfMemory)
    complete status.Ok name h = inl refl
    complete status.WriteFault name h = absurd (calm h.1)
    complete (status.Composite f) name h = absurd (none_stops f (told_at a.held files (IsStopped a.words f) told h.0))
    complete status.ReadFault name h = absurd (quiet h)
    complete status.OutOfMemory name h = inr refl
    complete (status.Input f) name h = absurd (none_named (status.Input f) name h)
    complete (status.Singular c) name h = absurd (none_named (status.Singular c) name h)
    complete (status.RulesClash m r) name h = absurd (none_named (status.RulesClash m r) name h)
    complete (status.TooMany what count) name h = absurd (none_named (status.TooMany what count) name h)
    complete status.Usage name h = absurd (none_named status.Usage name h.1)
    complete status.NotYet name h = absurd (none_named status.NotYet name h.1)

-- ---- the counts, and the divisors

pub counted_by : (a : Around) (s : Status) (name : Bytes) → HasCause a s name → IsCounted a.held a.faults a.faults_after s
counted_by a status.Ok name h = inl h.1
counted_by a status.WriteFault name h = inl h.2
counted_by a (status.Composite f) name h = inl h.1
counted_by a status.ReadFault name h = h
counted_by a status.OutOfMemory name h = tt
counted_by a (status.Input f) name h = h.1
counted_by a (status.Singular c) name h = h.1
counted_by a (status.RulesClash m r) name h = h.1
counted_by a (status.TooMany what count) name h = h.1
counted_by a status.Usage name h = h.1.1
counted_by a status.NotYet name h = h.1.1

-- an inverse that isn't there has a divisor of the modulus
pub divisor_told : JobsNameDivisors → (a : Around) (s : Status) (name : Bytes) → HasCause a s name → (fault : Composite) → s ≡ status.Composite fault → IfTold a.held (IsDivisorIn a.words fault.divisor)
divisor_told law a s name h fault is =
    let cause : HasCause a (status.Composite fault) name = subst (λ (t : Status). HasCause a t name) is h in
    weaker a.held (IsStopped a.words fault) (IsDivisorIn a.words fault.divisor) by cause.0
  where
    by : (files : Held) → IsStopped a.words fault files → IsDivisorIn a.words fault.divisor files
    by files (inl refusal) = law a.words files (record { status = status.Composite fault; name = refusal.0 }) fault refusal.1 refl
    by files (inr found) = divisor_of_plan a.words files found.plan fault.divisor found.is found.holds
