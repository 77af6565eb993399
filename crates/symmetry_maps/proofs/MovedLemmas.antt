-- Indices that a permutation moves.
use Rattle.std.proofs.Common.{◌≡◌, ◌≢◌, ℕ, zero, suc, ◌+◌, ◌-◌, ◌<◌, ◌≤◌, List, length, get_or, set, Option, Some, unwrap_or, sym, ap, subst, ◌∙◌, arith, ℤ, pos, negsuc, to_z, of_z, w8}
use Rattle.std.specs.Prelude.{All}
use Rattle.std.specs.List.{slice_get}
use Rattle.std.proofs.lemmas.Int.{ints}
use Rattle.std.proofs.lemmas.List.{get_or-set_same, get_or-set_other, length-set, same_lists}
use Rattle.std.proofs.lemmas.Option.{slice_get-get_or, unwrap_or-slice_get}
use Rattle.integral_index.specs.Integral.{IsIndex}
use Rattle.propagators.specs.Sums.{entry}
use Rattle.symmetry_maps.specs.Permutation.{IsPermutationOf}
use Rattle.symmetry_maps.specs.Equation.{IsMoved}
use Rattle.symmetry_maps.proofs.Reaching.{by_numbers, each_reached, entry_within}

-- there is one list of moved indices
pub one_moved : (places : List ℕ) (indices moved other : List ℤ) → IsPermutationOf (length indices) places → IsMoved places indices moved → IsMoved places indices other → moved ≡ other
one_moved places indices moved other h m o =
    same_lists moved other (m.size ∙ sym o.size)
    (λ k d below.
    let within : k < length indices = omega (arith, m.size, below) in
    let r = each_reached (length indices) places h (suc k) (omega arith) (omega (arith, within)) in
    let place : entry places r.number - 1 ≡ k = omega (arith, r.is) in
    let same : slice_get moved k ≡ slice_get other k =
    ap (slice_get moved) (sym place) ∙ m.at_place r.number r.from_1 r.within ∙ sym (o.at_place r.number r.from_1 r.within) ∙ ap (slice_get other) place in
    sym (unwrap_or-slice_get moved k d) ∙ ap (λ (o : Option ℤ). unwrap_or o d) same ∙ unwrap_or-slice_get other k d)

-- an index is read as it is
pub as_it_is : (z : ℤ) → IsIndex z → to_z w8 (of_z w8 z) ≡ z
as_it_is (pos n) h = omega (arith, ints, h.0)
as_it_is (negsuc n) h = omega (arith, ints, h.1)

-- the first n indices were written at their places
pub record AreWritten (n : ℕ) (places : List ℕ) (indices moved : List ℤ) : Type 0 where
  pub size : length moved ≡ length indices
  pub each : All IsIndex moved
  pub at_place : (j : ℕ) → j < n → get_or moved (get_or places j 0 - 1) (pos 0) ≡ get_or indices j (pos 0)

pub AreWritten-none : (places : List ℕ) (indices moved : List ℤ) → length moved ≡ length indices → All IsIndex moved → AreWritten 0 places indices moved
AreWritten-none places indices moved size each = record { size = size; each = each; at_place = λ j below. absurd (omega (arith, below)) }

-- what holds of all indices and of the new one holds of the changed list
All-set : (P : ℤ → Type 0) (a : List ℤ) (place : ℕ) (n : ℤ) → All P a → P n → All P (set a place n)
All-set P a place n all here k d below =
    let within : k < length a = omega (arith, length-set a place n, below) in
    by_numbers k place
    (λ same. subst P (sym (ap (λ m. get_or (set a m n) k d) (sym same) ∙ get_or-set_same a k n d within)) here)
    (λ other. subst P (sym (get_or-set_other a place k n d other)) (all k d within))

pub AreWritten-more : (n : ℕ) (places : List ℕ) (indices moved : List ℤ) → IsPermutationOf (length indices) places → All IsIndex indices → n < length indices
    → AreWritten n places indices moved → AreWritten (n + 1) places indices (set moved (get_or places n 0 - 1) (get_or indices n (pos 0)))
AreWritten-more n places indices moved h all below w =
    let place = get_or places n 0 - 1 in
    let last = get_or indices n (pos 0) in
    let here : place < length moved = omega (arith, (entry_within (length indices) places h n below).0, (entry_within (length indices) places h n below).1, w.size) in
    record {
      size = length-set moved place last ∙ w.size;
      each = All-set IsIndex moved place last w.each (all n (pos 0) below);
      at_place = λ j under. by_numbers j n
          (λ same. ap (λ m. get_or (set moved place last) (get_or places m 0 - 1) (pos 0)) same ∙ get_or-set_same moved place last (pos 0) here ∙ ap (λ m. get_or indices m (pos 0)) (sym same))
          (λ other.
          let before : j < n = omega (arith, under, other) in
          let differs : get_or places j 0 - 1 ≢ place =
          λ e.
          let entries : get_or places j 0 ≡ get_or places n 0 = omega (arith, e, (entry_within (length indices) places h n below).0, (entry_within (length indices) places h j (omega (arith, before, below))).0) in
          let equal : suc j ≡ suc n = h.once (suc j) (suc n) (omega arith) (omega (arith, before, below)) (omega arith) (omega (arith, below)) entries in
          absurd (omega (arith, equal, before)) in
          get_or-set_other moved place (get_or places j 0 - 1) last (pos 0) differs ∙ w.at_place j before);
    }

pub IsMoved-written : (n : ℕ) (places : List ℕ) (indices moved : List ℤ) → IsPermutationOf (length indices) places → length indices ≤ n → AreWritten n places indices moved → IsMoved places indices moved
IsMoved-written n places indices moved h all w = record {
  size = w.size;
  at_place = λ j low high. at j low high;
}
  where
    at : (j : ℕ) → 1 ≤ j → j ≤ length indices → slice_get moved (entry places j - 1) ≡ slice_get indices (j - 1)
    at zero low high = absurd (omega (arith, low))
    at (suc j) low high =
        let below : j < length indices = omega (arith, high) in
        let within : get_or places j 0 - 1 < length moved = omega (arith, (entry_within (length indices) places h j below).0, (entry_within (length indices) places h j below).1, w.size) in
        let place : suc j - 1 ≡ j = omega arith in
        slice_get-get_or moved (get_or places j 0 - 1) (pos 0) within
        ∙ ap Some (w.at_place j (omega (arith, below, all)))
        ∙ sym (slice_get-get_or indices j (pos 0) below)
        ∙ ap (slice_get indices) (sym place)
