-- The same outline and texts have one plan at most.
use Rattle.std.proofs.Common.{◌≡◌, ◌<◌, ℕ, zero, suc, List, [], ◌∷◌, length, Some, Ok, refl, sym, ap, subst, ◌∙◌, arith, ◌⊎◌, inl, inr}
use Rattle.std.specs.Prelude.{AllPairs, Contains, slice_index_or}
use Rattle.std.specs.List.{AllZip}
use Rattle.std.proofs.lemmas.List.Kept.{AllPairs-from_increasing}
use Rattle.yaml_text.specs.Lines.{Bytes}
use Rattle.integral_index.specs.Integral.{Integral}
use Rattle.integral_index.specs.declared.Order.TheVariants.{Standard}
use Rattle.seed_sets.specs.Seeds.{OneListAscends}
use Rattle.input_schema.specs.declared.faults.File.TheVariants as file
use Rattle.family_schema.specs.declared.content.Family.{Family}
use Rattle.job_schema.specs.declared.selections.ListFile.{ListFile}
use Rattle.list_schema.specs.Lists.{list_file}
use Rattle.job_point.specs.declared.faults.Excess.{Excess}
use Rattle.job_point.specs.declared.faults.Excess.TheVariants.{Seeds, Selected}
use Rattle.job_point.specs.declared.points.AtPoint.{AtPoint}
use Rattle.job_point.specs.Steps.{IsSingle}
use Rattle.job_point.specs.Laws.{PointsAreSingle}
use Rattle.job_point.proofs.StepLemmas.{is_single, then_single, each_single}
use Rattle.job_plan.specs.declared.gathering.Integrals.{Integrals}
use Rattle.job_outline.specs.Outlines.{Outline}
use Rattle.job_plan.specs.ListFiles.{told, IsListRead}
use Rattle.job_plan.specs.Gathering.{Gathers, AreFewTerms, AreIntegrals}
use Rattle.job_plan.specs.Plans.{AreZerosOf, HasPlan}
use Rattle.job_plan.specs.Laws.{PlanIsSingle}

-- ---- ascending numbers

nothing : (n : ℕ) → ¬ (Contains [] n)
nothing n m = absurd (omega (arith, m.1))

tail_up : (x : ℕ) (xs : List ℕ) → AllPairs (λ a b. a < b) (x ∷ xs) → AllPairs (λ a b. a < b) xs
tail_up x xs up i j d before within = up (suc i) (suc j) d (omega arith) (omega arith)

head_less : (x : ℕ) (xs : List ℕ) (y : ℕ) → AllPairs (λ a b. a < b) (x ∷ xs) → Contains xs y → x < y
head_less x xs y up m = subst (λ (n : ℕ). x < n) m.2 (up 0 (suc m.0) y (omega arith) (omega (arith, m.1)))

head_or_rest : (x : ℕ) (xs : List ℕ) (y : ℕ) → Contains (x ∷ xs) y → (x ≡ y) ⊎ Contains xs y
head_or_rest x xs y (zero, h, e) = inl e
head_or_rest x xs y (suc k, h, e) = inr (k, omega (arith, h), e)

in_rest : (x : ℕ) (xs : List ℕ) (y : ℕ) → Contains xs y → Contains (x ∷ xs) y
in_rest x xs y m = (suc m.0, omega (arith, m.1), m.2)

rest_of : (a b : ℕ) (us vs : List ℕ) (z : ℕ) → AllPairs (λ x y. x < y) (a ∷ us) → a ≡ b → Contains us z → (b ≡ z) ⊎ Contains vs z → Contains vs z
rest_of a b us vs z up same m (inl e) = let less : a < z = head_less a us z up m in absurd (omega (arith, less, same, e))
rest_of a b us vs z up same m (inr n) = n

same_heads : (x y : ℕ) (xs ys : List ℕ) → AllPairs (λ a b. a < b) (x ∷ xs) → AllPairs (λ a b. a < b) (y ∷ ys) → (y ≡ x) ⊎ Contains ys x → (x ≡ y) ⊎ Contains xs y → x ≡ y
same_heads x y xs ys up down (inl e) other = sym e
same_heads x y xs ys up down (inr m) (inl e) = e
same_heads x y xs ys up down (inr m) (inr n) =
    let less : x < y = head_less x xs y up n in
    let more : y < x = head_less y ys x down m in
    absurd (omega (arith, less, more))

one_rising : (xs ys : List ℕ) → AllPairs (λ a b. a < b) xs → AllPairs (λ a b. a < b) ys → ((n : ℕ) → Contains xs n → Contains ys n) → ((n : ℕ) → Contains ys n → Contains xs n) → xs ≡ ys
one_rising [] [] up down to from = refl
one_rising [] (y ∷ ys) up down to from = absurd (nothing y (from y (0, omega arith, refl)))
one_rising (x ∷ xs) [] up down to from = absurd (nothing x (to x (0, omega arith, refl)))
one_rising (x ∷ xs) (y ∷ ys) up down to from =
    let heads : x ≡ y = same_heads x y xs ys up down (head_or_rest y ys x (to x (0, omega arith, refl))) (head_or_rest x xs y (from y (0, omega arith, refl))) in
    λ i. heads i ∷ one_rising xs ys (tail_up x xs up) (tail_up y ys down)
    (λ z m. rest_of x y xs ys z up heads m (head_or_rest y ys z (to z (in_rest x xs z m))))
    (λ z m. rest_of y x ys xs z down (sym heads) m (head_or_rest x xs z (from z (in_rest y ys z m)))) i

zeros_same : (families : List Family) (some others : List (List ℕ)) → AllZip AreZerosOf families some → AllZip AreZerosOf families others → some ≡ others
zeros_same [] [] [] h k = refl
zeros_same [] [] (o ∷ others) h k = absurd k
zeros_same [] (s ∷ some) others h k = absurd h
zeros_same (family ∷ families) [] others h k = absurd h
zeros_same (family ∷ families) (s ∷ some) [] h k = absurd k
zeros_same (family ∷ families) (s ∷ some) (o ∷ others) h k =
    let first : s ≡ o =
    one_rising s o (AllPairs-from_increasing s h.0.ascending) (AllPairs-from_increasing o k.0.ascending)
    (λ n m. (k.0.same n).1 ((h.0.same n).0 m)) (λ n m. (h.0.same n).1 ((k.0.same n).0 m)) in
    λ i. first i ∷ zeros_same families some others h.1 k.1 i

-- ---- steps

list_single : (families : List Family) (number : ℕ) (listed : ListFile) (text : Bytes) → IsSingle (IsListRead families number listed text)
list_single families number listed text one other h k =
    let both : Some h.family ≡ Some k.family = sym h.found ∙ k.found in
    let family : h.family ≡ k.family = cc in
    let same : Ok one ≡ Ok other = sym h.is ∙ ap (λ (f : Family). told (list_file (file.List number) listed.family f.name f.width text)) family ∙ k.is in
    cc

pub gathers_single : OneListAscends Standard → (what : Excess) (Kind : Integral → Type 0) → IsSingle (Gathers what Kind)
gathers_single law what Kind one other h k =
    law one other h.ascends k.ascends (λ x. (λ m. (k.members x).1 ((h.members x).0 m), λ m. (h.members x).1 ((k.members x).0 m)))

few_single : (terms : ℕ) → IsSingle (AreFewTerms terms)
few_single terms one other h k = refl

pub plan_of_single : (families : List Family) (integrals : Integrals) (at : AtPoint) → IsSingle (HasPlan families integrals at)
plan_of_single families integrals at one other h k =
    let modulus : one.modulus ≡ other.modulus = h.modulus ∙ sym k.modulus in
    let order : one.order ≡ other.order = h.order ∙ sym k.order in
    let dimension : one.dimension ≡ other.dimension = h.dimension ∙ sym k.dimension in
    let names : one.names ≡ other.names = h.names ∙ sym k.names in
    let zeros : one.zeros ≡ other.zeros = zeros_same families one.zeros other.zeros h.zeros k.zeros in
    let bases : one.bases ≡ other.bases = h.bases ∙ sym k.bases in
    let symmetries : one.symmetries ≡ other.symmetries = h.symmetries ∙ sym k.symmetries in
    let seeds : one.seeds ≡ other.seeds = h.seeds_are ∙ sym k.seeds_are in
    let selection : one.selection ≡ other.selection = h.selection_is ∙ sym k.selection_is in
    λ i. record {
      modulus = modulus i;
      order = order i;
      dimension = dimension i;
      names = names i;
      zeros = zeros i;
      bases = bases i;
      symmetries = symmetries i;
      seeds = seeds i;
      selection = selection i;
    }

integrals_single : OneListAscends Standard → (outline : Outline) (texts : List Bytes) → IsSingle (AreIntegrals outline texts)
integrals_single law outline texts =
    then_single _ _ (each_single _ (λ found listed. list_single outline.families (length found) listed (slice_index_or texts (length found) [])) [] outline.select.files) (λ lists.
    then_single _ _ (gathers_single law Seeds _) (λ seeds.
    then_single _ _ (gathers_single law Selected _) (λ selection.
    then_single _ _ (few_single _) (λ _. is_single _))))

pub plan_single : OneListAscends Standard → PointsAreSingle → PlanIsSingle
plan_single law points outline texts big =
    then_single _ _ (integrals_single law outline texts) (λ integrals.
    then_single _ _ (points outline.point.prime outline.kinematics outline.families outline.point.settings big) (plan_of_single outline.families integrals))
