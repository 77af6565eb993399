-- What a plan keeps of its seeds and its selection.
use Rattle.std.proofs.Common.{◌≡◌, ◌≤◌, ◌+◌, ◌==◌, ℕ, ℤ, zero, suc, All, List, [], ◌∷◌, ◌++◌, length, Option, Some, None, Ok, Err, refl, sym, ap, subst, ◌∙◌, arith, inl, inr}
use Rattle.std.specs.Prelude.{Contains, IfOk, slice_get, slice_index_or}
use Rattle.std.specs.List.{AllZip}
use Rattle.std.proofs.lemmas.Bool.Decides.{nat_tests}
use Rattle.std.proofs.lemmas.List.Elements.{All-nil, All-cons, All-push, All-contains, All-weaker, All-contains_itself}
use Rattle.std.proofs.lemmas.List.Sums.{sum_by-cons}
use Rattle.yaml_text.specs.Lines.{Bytes, cut}
use Rattle.integral_index.specs.Integral.{Integral, positive_part, negative_part, r_of, s_of}
use Rattle.integral_index.specs.declared.Order.TheVariants.{Standard}
use Rattle.input_schema.specs.declared.faults.File.{File}
use Rattle.input_schema.specs.declared.faults.File.TheVariants as file
use Rattle.input_schema.specs.Readings.{Outcome}
use Rattle.seed_sets.specs.declared.Spec.{Spec}
use Rattle.seed_sets.specs.declared.Shape.{Shape}
use Rattle.seed_sets.specs.Seeds.{Ascends, IsFitting, IsSeedOfSome, IsShapeOf}
use Rattle.propagators.specs.Basis.{Basis}
use Rattle.family_schema.specs.declared.content.Family.{Family}
use Rattle.job_schema.specs.declared.selections.ListFile.{ListFile}
use Rattle.list_schema.specs.Indices.{pieces, index, indices}
use Rattle.list_schema.specs.Lists.{inner, is_integral, name_in, counted, Line, lines_from, on_line, list_file}
use Rattle.std.specs.Str.{bytes_eq}
use Rattle.ibp_generator.specs.Shifts.{IsSeedIndex}
use Rattle.job_equations.specs.Equations.{IsSeedOf}
use Rattle.job_point.specs.declared.faults.PlanError.TheVariants.{Input}
use Rattle.job_point.specs.Point.{IsBasisOf}
use Rattle.job_point.specs.Steps.{Answer, Step, After, Then, Each}
use Rattle.job_plan.specs.declared.gathering.Integrals.{Integrals}
use Rattle.job_outline.specs.Outlines.{Outline, IsSound}
use Rattle.job_outline.specs.Shapes.{shapes_of}
use Rattle.job_plan.specs.ListFiles.{told, IsListRead, AreListsRead}
use Rattle.job_plan.specs.Gathering.{IsSelected, AreIntegrals}
use Rattle.job_plan.specs.Plans.{IsOfFamily}
use Rattle.job_outline.proofs.Outcomes.{behind_known, each_counts, each_all, guarded}

all_of : (P : Integral → Type 0) (xs : List Integral) → ((x : Integral) → Contains xs x → P x) → All P xs
all_of P xs f = All-weaker (Contains xs) P f xs (All-contains_itself xs)

-- ---- steps

then_has : {A B : Type 0} (first : Step A) (next : A → Step B) (b : B) (P : Type 0) → Then first next (Ok b) → ((a : A) → first (Ok a) → next a (Ok b) → P) → P
then_has {A} {B} first next b P h f = by h.answer h.is h.after
  where
    by : (o : Answer A) → first o → After o next (Ok b) → P
    by (Ok a) is after = f a is after
    by (Err e) is after = absurd (let no : Ok b ≡ Err e = after in cc)

each_has : {N A : Type 0} (step : List A → N → Step A) (P : A → Type 0) → ((found : List A) (item : N) (a : A) → step found item (Ok a) → P a) →
    (start : List A) (items : List N) (all : List A) → All P start → Each step start items (Ok all) → All P all
each_has step P one start [] all h e = subst (λ (o : Answer _). IfOk o (All P)) (sym e) h
each_has step P one start (item ∷ items) all h e =
    then_has (step start item) (λ a. Each step (start ++ a ∷ []) items) all (All P all) e (λ a is rest.
    each_has step P one (start ++ a ∷ []) items all (All-push P start a h (one start item a is)) rest)

-- ---- the integrals of list files

-- of this family, with so many indices
record IsNamed (family width : ℕ) (x : Integral) : Type 0 where
  pub same_family : x.family ≡ family
  pub size : length x.indices ≡ width

counted_named : (f : File) (line family width : ℕ) (text : Bytes) → IfOk (counted f line family width text) (IsNamed family width)
counted_named f line family width text =
    guarded (length (pieces text) == width) _ _ (IsNamed family width) (λ same.
    let many : length (pieces text) ≡ width = grind (arith, nat_tests) in
    behind_known (indices f line text) (λ found. Ok (record { family = family; indices = found })) (λ found. length found ≡ 0 + length (pieces text)) (IsNamed family width)
    (each_counts (index f line) [] (pieces text)) (λ found e. record { same_family = refl; size = omega (arith, e, many) }))

integral_named : (f : File) (family : ℕ) (name : Bytes) (width : ℕ) (line : Line) → IfOk (on_line f family name width line) (IsNamed family width)
integral_named f family name width line =
    guarded (is_integral line.text) _ _ (IsNamed family width) (λ _.
    guarded (bytes_eq (name_in line.text) name) _ _ (IsNamed family width) (λ _. counted_named f line.number family width (inner line.text)))

file_named : (f : File) (family : ℕ) (name : Bytes) (width : ℕ) (text : Bytes) → IfOk (list_file f family name width text) (All (IsNamed family width))
unfolding list_file
file_named f family name width text =
    each_all (on_line f family name width) (IsNamed family width) (integral_named f family name width) [] (lines_from 1 (cut text)) (All-nil _)

-- the integral is of one of these families, with as many indices as it is wide
record IsOfOne (families : List Family) (x : Integral) : Type 0 where
  pub family : Family
  pub found : slice_get families x.family ≡ Some family
  pub size : length x.indices ≡ family.width

told_all : (outcome : Outcome (List Integral)) (list : List Integral) (P : Integral → Type 0) → told outcome ≡ Ok list → IfOk outcome (All P) → All P list
told_all (Ok found) list P e h = subst (λ (o : Answer (List Integral)). IfOk o (All P)) e h
told_all (Err fault) list P e h = absurd (let no : Err (Input fault) ≡ Ok list = e in cc)

list_of_one : (families : List Family) (number : ℕ) (listed : ListFile) (text : Bytes) (list : List Integral) → IsListRead families number listed text (Ok list) → All (IsOfOne families) list
list_of_one families number listed text list h =
    All-weaker (IsNamed listed.family h.family.width) (IsOfOne families)
    (λ x named. record { family = h.family; found = subst (λ (n : ℕ). slice_get families n ≡ Some h.family) (sym named.same_family) h.found; size = named.size }) list
    (told_all _ list (IsNamed listed.family h.family.width) h.is (file_named (file.List number) listed.family h.family.name h.family.width text))

lists_of_one : (families : List Family) (files : List ListFile) (texts : List Bytes) (lists : List (List Integral)) → AreListsRead families files texts (Ok lists) → All (All (IsOfOne families)) lists
lists_of_one families files texts lists h =
    each_has (λ found listed. IsListRead families (length found) listed (slice_index_or texts (length found) [])) (All (IsOfOne families))
    (λ found listed list is. list_of_one families (length found) listed (slice_index_or texts (length found) []) list is) [] files lists (All-nil _) h

-- ---- bases

abbrev HasWidth : Option Family → ℕ → Type 0
HasWidth None n = Unit {0}
HasWidth (Some family) n = n ≡ family.width

record HasBasis (bases : List Basis) (place width : ℕ) : Type 0 where
  pub basis : Basis
  pub found : slice_get bases place ≡ Some basis
  pub size : length basis.denominators ≡ width

module _ (p externals : ℕ) where
  basis_of_shape : (families : List Family) (bases : List Basis) → AllZip (IsBasisOf p externals) families bases → (place : ℕ) (shape : Shape) → IsShapeOf (shapes_of families) place shape → HasBasis bases place shape.width
  basis_of_shape [] [] h place shape at = absurd (omega (arith, at.0))
  basis_of_shape [] (basis ∷ bases) h place shape at = absurd h
  basis_of_shape (family ∷ families) [] h place shape at = absurd h
  basis_of_shape (family ∷ families) (basis ∷ bases) h zero shape at = record { basis = basis; found = refl; size = h.0.width ∙ ap (λ (s : Shape). s.width) at.1 }
  basis_of_shape (family ∷ families) (basis ∷ bases) h (suc place) shape at =
      let b = basis_of_shape families bases h.1 place shape (omega (arith, at.0), at.1) in record { basis = b.basis; found = b.found; size = b.size }

  basis_of_family : (families : List Family) (bases : List Basis) → AllZip (IsBasisOf p externals) families bases → (place : ℕ) (family : Family) → slice_get families place ≡ Some family → HasBasis bases place family.width
  basis_of_family [] [] h place family at = absurd (let no : None ≡ Some family = at in cc)
  basis_of_family [] (basis ∷ bases) h place family at = absurd h
  basis_of_family (first ∷ families) [] h place family at = absurd h
  basis_of_family (first ∷ families) (basis ∷ bases) h zero family at = record { basis = basis; found = refl; size = subst (λ (o : Option Family). HasWidth o (length basis.denominators)) at h.0.width }
  basis_of_family (first ∷ families) (basis ∷ bases) h (suc place) family at =
      let b = basis_of_family families bases h.1 place family at in record { basis = b.basis; found = b.found; size = b.size }

-- ---- indices of seeds

part_small : (a : ℤ) (r s : ℕ) → positive_part a + r ≤ 100 → negative_part a + s ≤ 100 → IsSeedIndex a
part_small a r s h k = (omega (arith, h), omega (arith, k))

seed_indices : (indices : List ℤ) → r_of indices ≤ 100 → s_of indices ≤ 100 → All IsSeedIndex indices
seed_indices [] h k = All-nil IsSeedIndex
seed_indices (a ∷ rest) h k =
    let r : positive_part a + r_of rest ≤ 100 = subst (λ (n : ℕ). n ≤ 100) (sum_by-cons positive_part a rest) h in
    let s : negative_part a + s_of rest ≤ 100 = subst (λ (n : ℕ). n ≤ 100) (sum_by-cons negative_part a rest) k in
    All-cons IsSeedIndex a rest (part_small a (r_of rest) (s_of rest) r s) (seed_indices rest (omega (arith, r)) (omega (arith, s)))

-- ---- the integrals of a job

module _ (p externals : ℕ) (families : List Family) (bases : List Basis) (kept : AllZip (IsBasisOf p externals) families bases) where
  seed_of : (specs : List Spec) → All (IsFitting (shapes_of families)) specs → (x : Integral) → IsSeedOfSome specs (shapes_of families) x → IsSeedOf bases x
  seed_of specs fit x h =
      let b = basis_of_shape p externals families bases kept h.spec.family h.shape h.shaped in
      let fits : IsFitting (shapes_of families) h.spec = All-contains (IsFitting (shapes_of families)) specs h.spec fit h.listed in
      let r : r_of x.indices ≤ 100 = omega (arith, h.seed.r, fits.r) in
      let s : s_of x.indices ≤ 100 = omega (arith, h.seed.s, fits.s) in record {
        basis = b.basis;
        found = subst (λ (n : ℕ). slice_get bases n ≡ Some b.basis) (sym h.seed.family) b.found;
        width = h.seed.width ∙ sym b.size;
        indices = seed_indices x.indices r s;
      }

  of_family : (x : Integral) → IsOfOne families x → IsOfFamily bases x
  of_family x h =
      let b = basis_of_family p externals families bases kept x.family h.family h.found in
      record { basis = b.basis; found = b.found; width = h.size ∙ sym b.size }

  selected_of : (specs : List Spec) → All (IsFitting (shapes_of families)) specs → (lists : List (List Integral)) → All (All (IsOfOne families)) lists → (x : Integral) → IsSelected specs (shapes_of families) lists x → IsOfFamily bases x
  selected_of specs fit lists of x h =
      elim h [
        | inl seed ↦ (let s = seed_of specs fit x seed in record { basis = s.basis; found = s.found; width = s.width })
        | inr named ↦ of_family x (All-contains (IsOfOne families) named.list x (All-contains (All (IsOfOne families)) lists named.list of named.is) named.named)
      ]

-- what a plan keeps of them
pub record AreKept (bases : List Basis) (integrals : Integrals) : Type 0 where
  pub seeds : All (IsSeedOf bases) integrals.seeds
  pub selection : All (IsOfFamily bases) integrals.selection
  pub ascends : Ascends Standard integrals.selection

pub integrals_kept : (outline : Outline) (texts : List Bytes) (integrals : Integrals) (p externals : ℕ) (bases : List Basis) → IsSound outline → AllZip (IsBasisOf p externals) outline.families bases →
    AreIntegrals outline texts (Ok integrals) → AreKept bases integrals
integrals_kept outline texts integrals p externals bases sound kept h =
    then_has _ _ integrals (AreKept bases integrals) h (λ lists read rest.
    then_has _ _ integrals (AreKept bases integrals) rest (λ seeds seeded rest2.
    then_has _ _ integrals (AreKept bases integrals) rest2 (λ selection selected rest3.
    then_has _ _ integrals (AreKept bases integrals) rest3 (λ _ few made.
    subst (λ (o : Answer Integrals). IfOk o (AreKept bases)) made
    (record {
      seeds = all_of (IsSeedOf bases) seeds (λ x m. seed_of p externals outline.families bases kept outline.reduce sound.reduce_fits x ((seeded.members x).0 m));
      selection = all_of (IsOfFamily bases) selection (λ x m. selected_of p externals outline.families bases kept outline.select.specs sound.select_fits.specs_fit lists (lists_of_one outline.families outline.select.files texts lists read) x ((selected.members x).0 m));
      ascends = selected.ascends;
    })))))
