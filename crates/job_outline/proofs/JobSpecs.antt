-- The specs of a job fit its families, and its list files are of these.
use Rattle.std.proofs.Common.{◌≡◌, ◌<◌, ◌≤◌, ◌+◌, ◌^◌, ℕ, zero, suc, Bool, true, false, cond, All, List, [], ◌∷◌, map, length, Option, Some, None, Ok, sym, ap, subst, ◌∙◌, arith, codes}
use Rattle.std.specs.Prelude.{IfOk, IfSome, get_or, nat_lt, slice_index_or, ◌||◌}
use Rattle.std.specs.List.{flat_map}
use Rattle.std.specs.Str.{bytes_eq}
use Rattle.std.proofs.lemmas.List.{length-map}
use Rattle.std.proofs.lemmas.List.Elements.{All-nil, All-head, All-tail, All-append, All-map}
use Rattle.std.proofs.lemmas.List.Sums.{AllPass-from_list_all}
use Rattle.yaml_text.specs.declared.tree.Tree.{Tree}
use Rattle.yaml_text.specs.declared.tree.Pair.{Pair}
use Rattle.yaml_text.specs.Lines.{Bytes}
use Rattle.text_tokens.specs.Names.{is_name, is_among}
use Rattle.rational_expressions.specs.Values.{place_of}
use Rattle.seed_sets.specs.declared.Shape.{Shape}
use Rattle.seed_sets.specs.Seeds.{IsFitting, IsShapeOf}
use Rattle.input_schema.specs.declared.faults.File.TheVariants.{Jobs}
use Rattle.input_schema.specs.Readings.{◌>>=◌, each}
use Rattle.input_schema.specs.Nodes.{line_of, scalar, items, pair}
use Rattle.input_schema.specs.Maps.{needed, value_of}
use Rattle.input_schema.specs.Names.{reference, reference_at}
use Rattle.input_schema.specs.Numbers.{wide_number, in_range}
use Rattle.family_schema.specs.declared.content.Family.{Family}
use Rattle.job_schema.specs.declared.frames.Frame.{Frame}
use Rattle.job_schema.specs.declared.groups.Group.{Group}
use Rattle.job_schema.specs.declared.selections.ListFile.{ListFile}
use Rattle.job_schema.specs.Specs.{no_limit, topologies, frame_at, fits, is_covered, sector_at, sector, sectors, bound, optional_bound, needed_bound, bounds, group_families, group_sectors, group_of, group_pairs, group, spec_of, specs_of_group, pair_count, limited, specs}
use Rattle.job_schema.specs.Jobs.{list_file_of, list_file}
use Rattle.job_outline.specs.Readings.{frame_of}
use Rattle.job_outline.specs.Shapes.{shape_of, shapes_of}
use Rattle.job_outline.proofs.Outcomes.{behind, behind_known, each_all, tested, guarded, either}

-- ---- names

place_below : (names : List Bytes) (text : Bytes) → is_among names text ≡ true → place_of names text < length names
place_below [] text h = absurd (let no : false ≡ true = h in cc)
place_below (name ∷ names) text h = by (bytes_eq name text) h (place_below names text)
  where
    by : (b : Bool) → (b || is_among names text) ≡ true → (is_among names text ≡ true → place_of names text < length names) → cond b 0 (place_of names text + 1) < suc (length names)
    by true h later = omega arith
    by false h later = let low = later h in omega (arith, low)

reference_within : (names : List Bytes) (node : Tree) → IfOk (reference Jobs node names) (λ place. place < length names)
reference_within names node =
    behind (scalar Jobs node) (reference_at Jobs (line_of node) names) (λ place. place < length names) (λ text.
    guarded (is_name text) _ _ (λ place. place < length names) (λ _. tested (is_among names text) (place_of names text) _ (λ place. place < length names) (place_below names text)))

topologies_within : (names : List Bytes) (node : Tree) → IfOk (topologies names node) (All (λ place. place < length names))
topologies_within names node =
    behind (items Jobs node 1 no_limit) (each (λ item. reference Jobs item names) []) (All (λ place. place < length names)) (λ nodes.
    each_all (λ item. reference Jobs item names) (λ place. place < length names) (reference_within names) [] nodes (All-nil _))

-- a list file is of a family
pub file_placed : (names : List Bytes) (node : Tree) → IfOk (list_file names node) (λ file. file.family < length names)
file_placed names node =
    behind (pair Jobs node) (list_file_of names) (λ (file : ListFile). file.family < length names) (λ both.
    behind_known (reference Jobs both.0 names) (λ family. scalar Jobs both.1 >>= (λ name. Ok (record { family = family; name = name }))) (λ place. place < length names) (λ (file : ListFile). file.family < length names) (reference_within names both.0) (λ family low.
    behind (scalar Jobs both.1) (λ name. Ok (record { family = family; name = name })) (λ (file : ListFile). file.family < length names) (λ name. low)))

-- ---- sectors

sector_fits : (frames : List Frame) (families : List ℕ) (node : Tree) → IfOk (sector frames families node) (λ n. fits frames families n ≡ true)
sector_fits frames families node =
    behind (wide_number Jobs node) (sector_at frames families (line_of node)) (λ n. fits frames families n ≡ true) (λ n.
    guarded (fits frames families n) _ _ (λ m. fits frames families m ≡ true) (λ e. tested (is_covered frames families n) n _ (λ m. fits frames families m ≡ true) (λ _. e)))

sectors_fit : (frames : List Frame) (families : List ℕ) (node : Tree) → IfOk (sectors frames families node) (All (λ n. fits frames families n ≡ true))
sectors_fit frames families node =
    behind (items Jobs node 1 no_limit) (each (sector frames families) []) (All (λ n. fits frames families n ≡ true)) (λ nodes.
    each_all (sector frames families) (λ n. fits frames families n ≡ true) (sector_fits frames families) [] nodes (All-nil _))

-- ---- bounds

bound_small : (node : Tree) → IfOk (bound node) (λ n. n ≤ 100)
bound_small node =
    behind (wide_number Jobs node) (in_range Jobs (line_of node) 0 100) (λ n. n ≤ 100) (λ n. tested _ n _ (λ m. m ≤ 100) (λ e. grind arith))

optional_bound_small : (node : Option Tree) → IfOk (optional_bound node) (λ d. IfSome d (λ n. n ≤ 100))
optional_bound_small None = tt
optional_bound_small (Some node) =
    behind_known (bound node) (λ n. Ok (Some n)) (λ n. n ≤ 100) (λ (d : Option ℕ). IfSome d (λ n. n ≤ 100)) (bound_small node) (λ n h. h)

needed_bound_small : (line : ℕ) (pairs : List Pair) (key : Bytes) → IfOk (needed_bound line pairs key) (λ n. n ≤ 100)
needed_bound_small line pairs key = behind (needed Jobs line pairs key) bound (λ n. n ≤ 100) bound_small

record AreSmall (r s : ℕ) (d : Option ℕ) : Type 0 where
  pub r_small : r ≤ 100
  pub s_small : s ≤ 100
  pub d_small : IfSome d (λ n. n ≤ 100)

bounds_small : (line : ℕ) (pairs : List Pair) → IfOk (bounds line pairs) (λ b. AreSmall b.r b.s b.d)
bounds_small line pairs =
    behind_known (needed_bound line pairs (codes "r")) _ (λ n. n ≤ 100) _ (needed_bound_small line pairs (codes "r")) (λ r low.
    behind_known (needed_bound line pairs (codes "s")) _ (λ n. n ≤ 100) _ (needed_bound_small line pairs (codes "s")) (λ s few.
    behind_known (optional_bound (value_of pairs (codes "d"))) _ (λ d. IfSome d (λ n. n ≤ 100)) _ (optional_bound_small (value_of pairs (codes "d"))) (λ d h.
    record { r_small = low; s_small = few; d_small = h })))

-- ---- items

record IsGroup (count : ℕ) (frames : List Frame) (g : Group) : Type 0 where
  pub families_within : All (λ place. place < count) g.families
  pub sectors_within : All (λ n. fits frames g.families n ≡ true) g.sectors
  pub small : AreSmall g.r g.s g.d

group_of_fits : (names : List Bytes) (frames : List Frame) (line : ℕ) (pairs : List Pair) → IfOk (group_of names frames line pairs) (IsGroup (length names) frames)
group_of_fits names frames line pairs =
    behind_known (group_families names line pairs) _ (All (λ place. place < length names)) (IsGroup (length names) frames)
    (behind (needed Jobs line pairs (codes "topologies")) (topologies names) (All (λ place. place < length names)) (topologies_within names)) (λ families within.
    behind_known (group_sectors frames line pairs families) _ (All (λ n. fits frames families n ≡ true)) (IsGroup (length names) frames)
    (behind (needed Jobs line pairs (codes "sectors")) (sectors frames families) (All (λ n. fits frames families n ≡ true)) (sectors_fit frames families)) (λ found fit.
    behind_known (bounds line pairs) (λ b. Ok (record { families = families; sectors = found; r = b.r; s = b.s; d = b.d })) (λ b. AreSmall b.r b.s b.d) (IsGroup (length names) frames) (bounds_small line pairs) (λ b small.
    record { families_within = within; sectors_within = fit; small = small })))

group_fits : (names : List Bytes) (frames : List Frame) (node : Tree) → IfOk (group names frames node) (IsGroup (length names) frames)
group_fits names frames node =
    behind (group_pairs node) (group_of names frames (line_of node)) (IsGroup (length names) frames) (group_of_fits names frames (line_of node))

-- ---- specs

All-flat_map : {X A : Type 0} (f : X → List A) (P : A → Type 0) (xs : List X) → All (λ x. All P (f x)) xs → All P (flat_map f xs)
All-flat_map f P [] all = All-nil P
All-flat_map f P (x ∷ xs) all = All-append P (f x) (flat_map f xs) (All-head (λ y. All P (f y)) x xs all) (All-flat_map f P xs (All-tail (λ y. All P (f y)) x xs all))

-- a family has one width
same_width : (families : List Family) (place : ℕ) (shape : Shape) (frame : Frame) → place < length families → slice_index_or (map shape_of families) place shape ≡ shape →
    (slice_index_or (map frame_of families) place frame).width ≡ shape.width
same_width [] place shape frame low at = absurd (omega (arith, low))
same_width (family ∷ families) zero shape frame low at = ap (λ (s : Shape). s.width) at
same_width (family ∷ families) (suc place) shape frame low at = same_width families place shape frame (omega (arith, low)) at

module _ (families : List Family) where
  abbrev frames : List Frame
  frames = map frame_of families

  sector_below : (place n : ℕ) → nat_lt n (2 ^ (frame_at frames place).width) ≡ true → (shape : Shape) → IsShapeOf (shapes_of families) place shape → n < 2 ^ shape.width
  sector_below place n below shape at =
      let low : place < length families = subst (λ (c : ℕ). place < c) (length-map families shape_of) at.0 in
      let width : (frame_at frames place).width ≡ shape.width = same_width families place shape _ low at.1 in
      let fit : n < 2 ^ (frame_at frames place).width = grind arith in
      subst (λ (w : ℕ). n < 2 ^ w) width fit

  specs_of_group_fit : (count : ℕ) → count ≡ length families → (g : Group) → IsGroup count frames g → All (IsFitting (shapes_of families)) (specs_of_group g)
  specs_of_group_fit count same g h =
      All-flat_map (λ family. map (spec_of g family) g.sectors) (IsFitting (shapes_of families)) g.families (λ k d low.
      All-map (IsFitting (shapes_of families)) (spec_of g (get_or g.families k d)) g.sectors (λ j e within. record {
        family = subst (λ (c : ℕ). get_or g.families k d < c) (same ∙ sym (length-map families shape_of)) (h.families_within k d low);
        sector = sector_below (get_or g.families k d) (get_or g.sectors j e) (AllPass-from_list_all _ g.families (h.sectors_within j e within) k d low);
        r = h.small.r_small;
        s = h.small.s_small;
        d = h.small.d_small;
      }))

  -- the specs of a list of items fit the families
  pub specs_fit : (names : List Bytes) → length names ≡ length families → (least : ℕ) (node : Tree) → IfOk (specs names (map frame_of families) least node) (All (IsFitting (shapes_of families)))
  specs_fit names same least node =
      behind_known (items Jobs node least no_limit >>= each (group names frames) []) (limited (line_of node)) (All (IsGroup (length names) frames)) (All (IsFitting (shapes_of families)))
      (behind (items Jobs node least no_limit) (each (group names frames) []) (All (IsGroup (length names) frames)) (λ nodes.
      each_all (group names frames) (IsGroup (length names) frames) (group_fits names frames) [] nodes (All-nil _)))
      (λ groups all. either (nat_lt 256 (pair_count groups)) _ _ (All (IsFitting (shapes_of families))) tt
      (All-flat_map specs_of_group (IsFitting (shapes_of families)) groups (λ k d low. specs_of_group_fit (length names) same (get_or groups k d) (all k d low))))
