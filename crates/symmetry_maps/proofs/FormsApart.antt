-- Independent forms are different from each other.
use Rattle.std.proofs.Common.{◌≡◌, ◌≢◌, ℕ, ◌+◌, ◌-◌, ◌*◌, ◌%◌, ◌<◌, List, [], length, get_or, map, Some, sym, ap, ◌∙◌, arith}
use Rattle.std.specs.List.{slice_get, range_with_len}
use Rattle.std.specs.Prelude.{option_map}
use Rattle.std.proofs.Math.Nat.{mul-add, mul_comm, mul-mod_right, mul-one}
use Rattle.std.proofs.lemmas.Option.{slice_get-map, slice_get_within, get_or_from_slice_get}
use Rattle.std.proofs.lemmas.List.{length-map}
use Rattle.std.proofs.lemmas.List.FromFn.{get_or-map-range_with_len, length-map-range_with_len}
use Rattle.matrix_elimination.specs.Vectors.{IsVector, dot, column, unit_at}
use Rattle.matrix_elimination.proofs.Weights.{weigh, dot-comm, dot-weigh, weigh-equal, weigh-add, weigh-scale, weigh-unit, unit_at-here, unit_at-other, column-at}
use Rattle.propagators.specs.Forms.{Form}
use Rattle.propagators.specs.Combinations.{AreIndependent, SumToConstant, rows_of}
use Rattle.symmetry_maps.specs.Steps.{AreApart}
use Rattle.symmetry_maps.proofs.Reaching.{by_numbers}

module _ (p : ℕ) (forms : List Form) (i j : ℕ) (form : Form) (large : 1 < p) (at_i : slice_get forms i ≡ Some form) (at_j : slice_get forms j ≡ Some form) (differ : i ≢ j) where
  -- once the form with the one place, and p - 1 times the one with the other
  abbrev weight : ℕ → ℕ
  weight k = unit_at i k + (p - 1) * unit_at j k

  abbrev weights : List ℕ
  weights = map weight (range_with_len 0 (length forms))

  weight-first : weight i ≡ 1
  weight-first =
      let here = unit_at-here i in
      let there = unit_at-other j i differ in
      ap (λ n. n + (p - 1) * unit_at j i) here ∙ ap (λ n. 1 + (p - 1) * n) there ∙ (let e : 1 + (p - 1) * 0 ≡ 1 = omega arith in e)

  weight-below : (k : ℕ) → weight k < p
  weight-below k =
      by_numbers k i
      (λ e. let is : weight k ≡ 1 = ap weight e ∙ weight-first in omega (arith, is, large))
      (λ e.
      let none : unit_at i k ≡ 0 = unit_at-other i k e in
      by_numbers k j
      (λ g. let is : weight k ≡ 0 + (p - 1) * 1 = ap (λ n. n + (p - 1) * unit_at j k) none ∙ ap (λ n. 0 + (p - 1) * unit_at j n) g ∙ ap (λ n. 0 + (p - 1) * n) (unit_at-here j) in omega (arith, is, large))
      (λ g. let is : weight k ≡ 0 + (p - 1) * 0 = ap (λ n. n + (p - 1) * unit_at j k) none ∙ ap (λ n. 0 + (p - 1) * n) (unit_at-other j k g) in omega (arith, is, large)))

  weights-at : (k d : ℕ) → k < length forms → get_or weights k d ≡ weight k
  weights-at k d below = get_or-map-range_with_len weight 0 (length forms) k k d below (omega arith)

  IsVector-weights : IsVector p (length forms) weights
  IsVector-weights = record {
    size = length-map-range_with_len weight 0 (length forms);
    below = λ k d h.
        let is = weights-at k d (omega (arith, length-map-range_with_len weight 0 (length forms), h)) in
        omega (arith, is, weight-below k);
  }

  row-at : (k : ℕ) → slice_get forms k ≡ Some form → get_or (rows_of forms) k [] ≡ form.products
  row-at k at = get_or_from_slice_get (rows_of forms) k form.products [] (slice_get-map (λ (f : Form). f.products) forms k ∙ ap (option_map (λ (f : Form). f.products)) at)

  column-here : (x k : ℕ) → slice_get forms k ≡ Some form → get_or (column x (rows_of forms)) k 0 ≡ get_or form.products x 0
  column-here x k at = column-at x (rows_of forms) k ∙ ap (λ (row : List ℕ). get_or row x 0) (row-at k at)

  cancelled : SumToConstant p forms weights
  cancelled x =
      let c = get_or form.products x 0 in
      let col = column x (rows_of forms) in
      let size : length col ≡ length forms = length-map (rows_of forms) _ ∙ length-map forms _ in
      let sum : dot weights col ≡ get_or col i 0 + (p - 1) * get_or col j 0 =
      dot-comm weights col ∙ dot-weigh col weights
      ∙ weigh-equal col (λ k. get_or weights k 0) weight (λ k h. weights-at k 0 (omega (arith, size, h)))
      ∙ weigh-add col (unit_at i) (λ k. (p - 1) * unit_at j k)
      ∙ ap (λ n. weigh col (unit_at i) + n) (weigh-scale (p - 1) col (unit_at j))
      ∙ ap (λ n. n + (p - 1) * weigh col (unit_at j)) (weigh-unit col i)
      ∙ ap (λ n. get_or col i 0 + (p - 1) * n) (weigh-unit col j) in
      let both : get_or col i 0 + (p - 1) * get_or col j 0 ≡ c + (p - 1) * c = ap (λ n. n + (p - 1) * get_or col j 0) (column-here x i at_i) ∙ ap (λ n. c + (p - 1) * n) (column-here x j at_j) in
      ap (λ n. n % p) (sum ∙ both ∙ whole c) ∙ mul-mod_right p c
    where
      whole : (c : ℕ) → c + (p - 1) * c ≡ p * c
      whole c =
          let one : 1 + (p - 1) ≡ p = omega (arith, large) in
          ap (λ n. n + (p - 1) * c) (sym (mul-one c)) ∙ ap (λ n. c * 1 + n) (mul_comm (p - 1) c) ∙ sym (mul-add c 1 (p - 1)) ∙ ap (λ n. c * n) one ∙ mul_comm c p

  different : AreIndependent p forms → ⊥
  different independent =
      let zero_there : get_or weights i 0 ≡ 0 = independent weights IsVector-weights cancelled i 0 (omega (arith, length-map-range_with_len weight 0 (length forms), slice_get_within forms i form at_i)) in
      let one_there : get_or weights i 0 ≡ 1 = weights-at i 0 (slice_get_within forms i form at_i) ∙ weight-first in
      absurd (omega (arith, zero_there, one_there))

pub apart : (p : ℕ) (forms : List Form) → 1 < p → AreIndependent p forms → AreApart forms
apart p forms large independent i j form at_i at_j =
    by_numbers i j (λ same. same) (λ differ. absurd (different p forms i j form large at_i at_j differ independent))
