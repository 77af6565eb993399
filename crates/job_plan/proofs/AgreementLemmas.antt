-- The answers for one outline and the same texts are the same, but where one names a divisor of the modulus.
use Rattle.std.proofs.Common.{◌≡◌, ◌≤◌, ℕ, Bool, true, false, List, [], length, Some, Ok, Err, inl, refl, sym, ap, ◌∙◌, arith}
use Rattle.std.specs.Prelude.{slice_index_or}
use Rattle.std.specs.Result.{is_ok}
use Rattle.std.proofs.lemmas.Bool.{true≢false}
use Rattle.field_word.specs.declared.Composite.{Composite as FieldComposite}
use Rattle.yaml_text.specs.Lines.{Bytes}
use Rattle.input_schema.specs.Readings.{Outcome}
use Rattle.integral_index.specs.Integral.{Integral}
use Rattle.integral_index.specs.declared.Order.TheVariants.{Standard}
use Rattle.seed_sets.specs.Seeds.{OneListAscends, NoListIsLonger, AreMore}
use Rattle.input_schema.specs.declared.faults.File.TheVariants as file
use Rattle.family_schema.specs.declared.content.Family.{Family}
use Rattle.job_schema.specs.declared.selections.ListFile.{ListFile}
use Rattle.list_schema.specs.Lists.{list_file}
use Rattle.job_point.specs.declared.faults.Excess.{Excess}
use Rattle.job_point.specs.declared.faults.Excess.TheVariants.{Seeds, Selected}
use Rattle.job_point.specs.declared.faults.PlanError.TheVariants.{Input, Singular, RulesClash, Composite, TooMany, OutOfMemory}
use Rattle.job_point.specs.declared.points.AtPoint.{AtPoint}
use Rattle.job_point.specs.Steps.{Answer}
use Rattle.job_point.specs.Agreement.{Agrees, NamesDivisorsAlone}
use Rattle.job_point.specs.Laws.{PointsAgree, PointsNameDivisors}
use Rattle.job_point.proofs.AgreeingSteps.{same_answer, is_agrees, then_agrees, each_agrees, then_names, is_names, each_names}
use Rattle.job_plan.specs.declared.gathering.Integrals.{Integrals}
use Rattle.job_outline.specs.Outlines.{Outline}
use Rattle.job_plan.specs.ListFiles.{told, IsListRead}
use Rattle.job_plan.specs.Gathering.{most_integrals, AreAll, Gathers, AreFewTerms, AreIntegrals}
use Rattle.job_plan.specs.Plans.{HasPlan}
use Rattle.job_plan.specs.Laws.{PlansAgree, PlansNameDivisors}
use Rattle.job_plan.proofs.SingleLemmas.{gathers_single, plan_of_single}

-- ---- list files

list_agrees : (p : ℕ) (families : List Family) (number : ℕ) (listed : ListFile) (text : Bytes) → Agrees p (IsListRead families number listed text)
list_agrees p families number listed text r q h k =
    let both : Some h.family ≡ Some k.family = sym h.found ∙ k.found in
    let family : h.family ≡ k.family = cc in
    inl (same_answer r q (sym h.is ∙ ap (λ (f : Family). told (list_file (file.List number) listed.family f.name f.width text)) family ∙ k.is))

-- ---- limits

-- where there are too many of a kind, no list of all of them is short enough
too_many : NoListIsLonger Standard → (Kind : Integral → Type 0) (list : List Integral) → AreAll Kind list → AreMore Standard most_integrals Kind → ⊥
too_many law Kind list all more =
    let counted : length more.some ≤ length list = law more.some list more.ascends all.ascends (λ x m. (all.members x).1 (more.each x m)) in
    let few = all.few in
    let many = more.more in
    absurd (omega (arith, counted, few, many))

gathers_agree : OneListAscends Standard → NoListIsLonger Standard → (p : ℕ) (what : Excess) (Kind : Integral → Type 0) → Agrees p (Gathers what Kind)
gathers_agree law longer p what Kind = by
  where
    by : Agrees p (Gathers what Kind)
    by (Ok a) (Ok b) h k = inl (ap Ok (gathers_single law what Kind b a k h))
    by (Ok a) (Err (TooMany w count)) h k = absurd (too_many longer Kind a h k.2)
    by (Err (TooMany w count)) (Ok b) h k = absurd (too_many longer Kind b k h.2)
    by (Err (TooMany w count)) (Err (TooMany v other)) h k =
        inl (same_answer (Err (TooMany w count)) (Err (TooMany v other)) ((λ i. Err (TooMany ((h.0 ∙ sym k.0) i) ((h.1 ∙ sym k.1) i)))))
    by (Err (Singular cause)) q h k = absurd h
    by (Err (RulesClash m r)) q h k = absurd h
    by (Err (Input f)) q h k = absurd h
    by (Err (Composite f)) q h k = absurd h
    by (Err OutOfMemory) q h k = absurd h
    by (Ok a) (Err (Singular cause)) h k = absurd k
    by (Ok a) (Err (RulesClash m r)) h k = absurd k
    by (Ok a) (Err (Input f)) h k = absurd k
    by (Ok a) (Err (Composite f)) h k = absurd k
    by (Ok a) (Err OutOfMemory) h k = absurd k
    by (Err (TooMany w count)) (Err (Singular cause)) h k = absurd k
    by (Err (TooMany w count)) (Err (RulesClash m r)) h k = absurd k
    by (Err (TooMany w count)) (Err (Input f)) h k = absurd k
    by (Err (TooMany w count)) (Err (Composite f)) h k = absurd k
    by (Err (TooMany w count)) (Err OutOfMemory) h k = absurd k

few_agrees : (p terms : ℕ) → Agrees p (AreFewTerms terms)
few_agrees p terms = by
  where
    by : Agrees p (AreFewTerms terms)
    by (Ok a) (Ok b) h k = inl refl
    by (Ok a) (Err (TooMany w count)) h k = let many = k.2 in absurd (omega (arith, h, many))
    by (Err (TooMany w count)) (Ok b) h k = let many = h.2 in absurd (omega (arith, k, many))
    by (Err (TooMany w count)) (Err (TooMany v other)) h k =
        inl (same_answer (Err (TooMany w count)) (Err (TooMany v other)) ((λ i. Err (TooMany ((h.0 ∙ sym k.0) i) ((h.1 ∙ sym k.1) i)))))
    by (Err (Singular cause)) q h k = absurd h
    by (Err (RulesClash m r)) q h k = absurd h
    by (Err (Input f)) q h k = absurd h
    by (Err (Composite f)) q h k = absurd h
    by (Err OutOfMemory) q h k = absurd h
    by (Ok a) (Err (Singular cause)) h k = absurd k
    by (Ok a) (Err (RulesClash m r)) h k = absurd k
    by (Ok a) (Err (Input f)) h k = absurd k
    by (Ok a) (Err (Composite f)) h k = absurd k
    by (Ok a) (Err OutOfMemory) h k = absurd k
    by (Err (TooMany w count)) (Err (Singular cause)) h k = absurd k
    by (Err (TooMany w count)) (Err (RulesClash m r)) h k = absurd k
    by (Err (TooMany w count)) (Err (Input f)) h k = absurd k
    by (Err (TooMany w count)) (Err (Composite f)) h k = absurd k
    by (Err (TooMany w count)) (Err OutOfMemory) h k = absurd k

-- ---- the plan

integrals_agree : OneListAscends Standard → NoListIsLonger Standard → (p : ℕ) (outline : Outline) (texts : List Bytes) → Agrees p (AreIntegrals outline texts)
integrals_agree law longer p outline texts =
    then_agrees p _ _ (each_agrees p _ (λ found listed. list_agrees p outline.families (length found) listed (slice_index_or texts (length found) [])) [] outline.select.files) (λ lists.
    then_agrees p _ _ (gathers_agree law longer p Seeds _) (λ seeds.
    then_agrees p _ _ (gathers_agree law longer p Selected _) (λ selection.
    then_agrees p _ _ (few_agrees p _) (λ _. is_agrees p _))))

plan_of_agrees : (p : ℕ) (families : List Family) (integrals : Integrals) (at : AtPoint) → Agrees p (HasPlan families integrals at)
plan_of_agrees p families integrals at (Ok a) (Ok b) h k = inl (ap Ok (plan_of_single families integrals at b a k h))
plan_of_agrees p families integrals at (Ok a) (Err e) h k = absurd k
plan_of_agrees p families integrals at (Err e) q h k = absurd h

pub plans_agree : OneListAscends Standard → NoListIsLonger Standard → PointsAgree → PlansAgree
plans_agree law longer points outline texts big =
    then_agrees outline.point.prime _ _ (integrals_agree law longer outline.point.prime outline texts) (λ integrals.
    then_agrees outline.point.prime _ _ (points outline.point.prime outline.kinematics outline.families outline.point.settings big)
    (plan_of_agrees outline.point.prime outline.families integrals))

-- ---- divisors

abbrev is_composite : {A : Type 0} → Answer A → Bool
is_composite (Err (Composite f)) = true
is_composite r = false

never_composite : {A : Type 0} (o : Outcome A) (fault : FieldComposite) → told o ≡ Err (Composite fault) → ⊥
never_composite (Ok a) fault e = true≢false (ap is_ok e)
never_composite (Err f) fault e = true≢false (sym (ap is_composite e))

lists_name : (p : ℕ) (families : List Family) (number : ℕ) (listed : ListFile) (text : Bytes) → NamesDivisorsAlone p (IsListRead families number listed text)
lists_name p families number listed text fault h = absurd (never_composite _ fault h.is)

integrals_name : (p : ℕ) (outline : Outline) (texts : List Bytes) → NamesDivisorsAlone p (AreIntegrals outline texts)
integrals_name p outline texts =
    then_names p _ _ (each_names p _ (λ found listed. lists_name p outline.families (length found) listed (slice_index_or texts (length found) [])) [] outline.select.files) (λ lists is.
    then_names p _ _ (λ fault h. absurd h) (λ seeds is.
    then_names p _ _ (λ fault h. absurd h) (λ selection is.
    then_names p _ _ (λ fault h. absurd h) (λ _ is. is_names p _))))

pub plans_name_divisors : PointsNameDivisors → PlansNameDivisors
plans_name_divisors points outline texts big =
    then_names outline.point.prime _ _ (integrals_name outline.point.prime outline texts) (λ integrals is.
    then_names outline.point.prime _ _ (points outline.point.prime outline.kinematics outline.families outline.point.settings big) (λ at is fault h. absurd h))
