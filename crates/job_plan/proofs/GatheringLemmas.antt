-- What is gathered, and why it can't be.
use Rattle.std.proofs.Common.{◌<◌, ◌≤◌, ℕ, zero, suc, All, List, [], ◌∷◌, ◌++◌, length, Result, Ok, Err, refl, sym, subst, arith, inl, inr}
use Rattle.std.specs.Prelude.{◌↔◌, Contains, IfOk, IfErr}
use Rattle.std.specs.List.{flat_map}
use Rattle.std.specs.declared.vec.Vec.{Vec}
use Rattle.std.proofs.lemmas.List.Elements.{All-weaker, All-contains_itself, Contains-append_left, Contains-append_right, Contains-append_cases}
use Rattle.std.proofs.lemmas.List.{length-map}
use Rattle.integral_index.specs.Integral.{Integral}
use Rattle.integral_index.specs.declared.Order.TheVariants.{Standard}
use Rattle.seed_sets.specs.declared.Spec.{Spec}
use Rattle.seed_sets.specs.declared.Shape.{Shape}
use Rattle.seed_sets.specs.declared.faults.SeedFault.{SeedFault}
use Rattle.seed_sets.specs.declared.faults.SeedFault.TheVariants as seed_fault
use Rattle.seed_sets.specs.Seeds.{Ascends, AreMore, IsCause, IsSeedOfSome}
use Rattle.family_schema.specs.declared.content.Family.{Family}
use Rattle.job_point.specs.declared.faults.Excess.{Excess}
use Rattle.job_point.specs.declared.faults.PlanError.{PlanError}
use Rattle.job_point.specs.declared.faults.PlanError.TheVariants.{Input, Singular, RulesClash, Composite, TooMany, OutOfMemory}
use Rattle.job_point.specs.Steps.{Answer, Refuses, Meets}
use Rattle.job_point.proofs.StepLemmas.{then_is, then_refuses, then_refuses_later}
use Rattle.yaml_text.specs.Lines.{Bytes}
use Rattle.job_outline.specs.Outlines.{Outline}
use Rattle.job_outline.specs.Shapes.{shape_of, shapes_of}
use Rattle.job_plan.specs.Shapes.{terms_of}
use Rattle.job_plan.specs.ListFiles.{AreListsRead}
use Rattle.job_plan.specs.Gathering.{most_integrals, IsListed, IsSelected, AreAll, Gathers, AreFewTerms, AreIntegrals}
use Rattle.job_plan.specs.Steps.{told}

-- what a list of integrals answers here
pub meets_list : {Z : Type 0} (what : Excess) (answer : Result (Vec Integral Z) SeedFault) (Kind : Integral → Type 0) →
    IfOk answer (λ found. Ascends Standard found.items) → IfOk answer (λ found. (x : Integral) → Contains found.items x ↔ Kind x) → IfOk answer (λ found. length found.items ≤ most_integrals) →
    IfErr answer (IsCause Standard most_integrals Kind) → Meets (Gathers what Kind) (told what answer)
meets_list what (Ok found) Kind up same few many = record { ascends = up; members = same; few = few }
meets_list what (Err (seed_fault.TooMany count)) Kind up same few many = (refl, many.0, many.1)
meets_list what (Err seed_fault.OutOfMemory) Kind up same few many = tt

-- ---- one kind and another

more_of : (P Q : Integral → Type 0) → ((x : Integral) → P x → Q x) → AreMore Standard most_integrals P → AreMore Standard most_integrals Q
more_of P Q f h = record { some = h.some; ascends = h.ascends; more = h.more; each = λ x m. f x (h.each x m) }

pub refuses_of : (what : Excess) (P Q : Integral → Type 0) → ((x : Integral) → P x → Q x) → (e : PlanError) → Refuses (Gathers what P) e → Refuses (Gathers what Q) e
refuses_of what P Q f (Input fault) h = absurd h
refuses_of what P Q f (Singular fault) h = absurd h
refuses_of what P Q f (RulesClash multipliers residue) h = absurd h
refuses_of what P Q f (Composite fault) h = absurd h
refuses_of what P Q f (TooMany found count) h = (h.0, h.1, more_of P Q f h.2)
refuses_of what P Q f OutOfMemory h = tt

pub meets_same : (what : Excess) (P Q : Integral → Type 0) → ((x : Integral) → P x ↔ Q x) → (r : Answer (List Integral)) → Meets (Gathers what P) r → Meets (Gathers what Q) r
meets_same what P Q same (Ok list) h = record {
  ascends = h.ascends;
  members = λ x. (λ m. (same x).0 ((h.members x).0 m), λ q. (h.members x).1 ((same x).1 q));
  few = h.few;
}
meets_same what P Q same (Err e) h = refuses_of what P Q (λ x. (same x).0) e h

-- ---- the integrals of lists

nothing : (x : Integral) → ¬ (Contains [] x)
nothing x m = absurd (omega (arith, m.1))

listed_to : (lists : List (List Integral)) (x : Integral) → Contains (flat_map (λ list. list) lists) x → IsListed lists x
listed_to [] x m = absurd (nothing x m)
listed_to (list ∷ lists) x m =
    elim (Contains-append_cases list (flat_map (λ l. l) lists) x m) [
      | inl here ↦ record { list = list; is = (0, omega arith, refl); named = here }
      | inr behind ↦ (let h = listed_to lists x behind in record { list = h.list; is = (suc h.is.0, omega (arith, h.is.1), h.is.2); named = h.named })
    ]

listed_from : (lists : List (List Integral)) (x : Integral) (list : List Integral) → Contains lists list → Contains list x → Contains (flat_map (λ l. l) lists) x
listed_from [] x list (k, low, at) m = absurd (omega (arith, low))
listed_from (first ∷ lists) x list (zero, low, at) m = Contains-append_left first (flat_map (λ l. l) lists) x (subst (λ (l : List Integral). Contains l x) (sym at) m)
listed_from (first ∷ lists) x list (suc k, low, at) m =
    Contains-append_right first (flat_map (λ l. l) lists) x (listed_from lists x list (k, omega (arith, low), at) m)

-- the seeds and the lists are the selection
pub selected_same : (specs : List Spec) (shapes : List Shape) (lists : List (List Integral)) (seeds : List Integral) → ((x : Integral) → Contains seeds x ↔ IsSeedOfSome specs shapes x) →
    (x : Integral) → Contains (seeds ++ flat_map (λ list. list) lists) x ↔ IsSelected specs shapes lists x
selected_same specs shapes lists seeds same x = (
  λ m. elim (Contains-append_cases seeds (flat_map (λ l. l) lists) x m) [
    | inl seed ↦ inl ((same x).0 seed)
    | inr named ↦ inr (listed_to lists x named)
  ],
  λ h. elim h [
    | inl seed ↦ Contains-append_left seeds (flat_map (λ l. l) lists) x ((same x).1 seed)
    | inr named ↦ Contains-append_right seeds (flat_map (λ l. l) lists) x (listed_from lists x named.list named.is named.named)
  ],
)

-- ---- the families of seeds

all_of : (P : Integral → Type 0) (xs : List Integral) → ((x : Integral) → Contains xs x → P x) → All P xs
all_of P xs f = All-weaker (Contains xs) P f xs (All-contains_itself xs)

pub seeds_placed : (families : List Family) (specs : List Spec) (seeds : List Integral) → AreAll (IsSeedOfSome specs (shapes_of families)) seeds → All (λ seed. seed.family < length families) seeds
seeds_placed families specs seeds h =
    all_of (λ seed. seed.family < length families) seeds (λ x m.
    let seed = (h.members x).0 m in
    let low : seed.spec.family < length families = subst (λ (n : ℕ). seed.spec.family < n) (length-map families shape_of) seed.shaped.0 in
    subst (λ (n : ℕ). n < length families) (sym seed.seed.family) low)

-- ---- the last step

-- the lists, the seeds and the selection of an outline
pub record AreFound (outline : Outline) (texts : List Bytes) (lists : List (List Integral)) (seeds selection : List Integral) : Type 0 where
  pub read : AreListsRead outline.families outline.select.files texts (Ok lists)
  pub seeded : AreAll (IsSeedOfSome outline.reduce (shapes_of outline.families)) seeds
  pub selected : AreAll (IsSelected outline.select.specs (shapes_of outline.families) lists) selection

pub integrals_found : (outline : Outline) (texts : List Bytes) (lists : List (List Integral)) (seeds selection : List Integral) → AreFound outline texts lists seeds selection →
    AreFewTerms (terms_of outline.kinematics outline.families seeds) (Ok tt) → AreIntegrals outline texts (Ok (record { seeds = seeds; selection = selection }))
integrals_found outline texts lists seeds selection h few =
    then_is _ _ lists _ h.read (then_is _ _ seeds _ h.seeded (then_is _ _ selection _ h.selected (then_is _ _ tt _ few refl)))

pub integrals_refused : (outline : Outline) (texts : List Bytes) (lists : List (List Integral)) (seeds selection : List Integral) → AreFound outline texts lists seeds selection →
    (e : PlanError) → Refuses (AreFewTerms (terms_of outline.kinematics outline.families seeds)) e → Refuses (AreIntegrals outline texts) e
integrals_refused outline texts lists seeds selection h e many =
    then_refuses_later _ _ lists e h.read (then_refuses_later _ _ seeds e h.seeded (then_refuses_later _ _ selection e h.selected (then_refuses _ _ e many)))
