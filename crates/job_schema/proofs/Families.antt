-- What is tested for each of some families depends only on which families they are.
use Rattle.std.proofs.Common.{◌≡◌, ◌↔◌, ◌<◌, ◌≤◌, ℕ, Bool, true, false, cond, List, length, get_or, All, Contains, Ok, refl, sym, ap, subst, ◌∙◌, arith}
use Rattle.std.specs.List.{list_all, list_any}
use Rattle.std.proofs.lemmas.List.Elements.{All-contains, Contains-get_or}
use Rattle.std.proofs.lemmas.List.Sums.{AllPass-from_list_all, list_all-from_AllPass}
use Rattle.yaml_text.specs.declared.tree.Tree.{Tree}
use Rattle.input_schema.specs.declared.faults.File.TheVariants.{Jobs}
use Rattle.input_schema.specs.declared.faults.InputKind.TheVariants.{OutOfRange, SectorOutside}
use Rattle.input_schema.specs.Readings.{Outcome, refuse, ◌>>=◌}
use Rattle.input_schema.specs.Nodes.{line_of}
use Rattle.input_schema.specs.Numbers.{wide_number}
use Rattle.job_schema.specs.declared.frames.Frame.{Frame}
use Rattle.job_schema.specs.Specs.{fits, is_covered, sector}

same_bools : (a b : Bool) → (a ≡ true → b ≡ true) → (b ≡ true → a ≡ true) → a ≡ b
same_bools true b f g = sym (f refl)
same_bools false true f g = g refl
same_bools false false f g = refl

module _ (xs ys : List ℕ) (same : (n : ℕ) → Contains xs n ↔ Contains ys n) where
  pub All-same : (P : ℕ → Type 0) → All P ys → All P xs
  All-same P all k d h = All-contains P ys (get_or xs k d) all ((same (get_or xs k d)).0 (Contains-get_or xs k d h))

  pub some_same : 1 ≤ length ys → 1 ≤ length xs
  some_same h =
      let there = (same (get_or ys 0 0)).1 (Contains-get_or ys 0 0 (omega arith)) in
      omega (arith, there.1)

  pass : (p : ℕ → Bool) → list_all p ys ≡ true → list_all p xs ≡ true
  pass p h = list_all-from_AllPass p xs (All-same (λ n. p n ≡ true) (AllPass-from_list_all p ys h))

module _ (xs ys : List ℕ) (same : (n : ℕ) → Contains xs n ↔ Contains ys n) where
  turned : (n : ℕ) → Contains ys n ↔ Contains xs n
  turned n = ((same n).1, (same n).0)

  pub list_all-same : (p : ℕ → Bool) → list_all p xs ≡ list_all p ys
  unfolding turned
  list_all-same p = same_bools _ _ (pass ys xs turned p) (pass xs ys same p)

  pub sector-same : (frames : List Frame) → sector frames xs ≡ sector frames ys
  sector-same frames =
      let f : (n : ℕ) → fits frames xs n ≡ fits frames ys n = λ n. list_all-same _ in
      let g : (n : ℕ) → is_covered frames xs n ≡ is_covered frames ys n = λ n. list_all-same _ in
      λ i node. wide_number Jobs node >>= (λ n. cond (f n i) (cond (g n i) (Ok n) (refuse Jobs (line_of node) SectorOutside)) (refuse Jobs (line_of node) OutOfRange))
