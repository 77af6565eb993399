-- To which denominators the images are sent.
use Rattle.std.proofs.Common.{◌≡◌, ◌≢◌, ℕ, suc, ◌+◌, ◌-◌, ◌<◌, ◌≤◌, inl, inr, List, [], ◌∷◌, ◌++◌, length, get_or, Some, sym, ap, subst, ◌∙◌, arith, length-append}
use Rattle.std.specs.Prelude.{Contains}
use Rattle.std.specs.List.{slice_get}
use Rattle.std.proofs.Math.Seq.{get_or-append_seam}
use Rattle.std.proofs.lemmas.Grind.{same_number_lists}
use Rattle.std.proofs.lemmas.List.{get_or_append_left, get_or_default}
use Rattle.std.proofs.lemmas.Option.{same_Some, slice_get_within}
use Rattle.propagators.specs.Forms.{Form}
use Rattle.propagators.specs.Sums.{entry}
use Rattle.propagators.proofs.SumLemmas.{entry-at}
use Rattle.symmetry_maps.specs.Symmetry.{IsAtFault, IsFirstAtFault, IsFormAt, IsSymmetry, Sends}
use Rattle.symmetry_maps.specs.Laws.{FaultRefutesSymmetry, OneSymmetry}
use Rattle.symmetry_maps.specs.Steps.{AreApart, IsFree, IsNotFree}
use Rattle.symmetry_maps.proofs.FormsApart.{apart}
use Rattle.symmetry_maps.proofs.Reaching.{by_numbers}

module _ (images forms : List Form) where
  -- an image is the form of one denominator at most
  one_place : AreApart forms → (j k l : ℕ) → Sends images forms j k → Sends images forms j l → k ≡ l
  one_place differ j k l s t =
      let same : s.form ≡ t.form = same_Some s.form t.form (sym s.image.is ∙ t.image.is) in
      let places : k - 1 ≡ l - 1 = differ (k - 1) (l - 1) t.form (s.denominator.is ∙ ap Some same) t.denominator.is in
      omega (arith, places, s.denominator.from_1, t.denominator.from_1)

  -- the first n images are sent to denominators, no two to the same
  pub record AreSent (n : ℕ) (places : List ℕ) : Type 0 where
    pub size : length places ≡ n
    pub sends : (j : ℕ) → 1 ≤ j → j ≤ n → Sends images forms j (entry places j)
    pub once : (i j : ℕ) → 1 ≤ i → i ≤ n → 1 ≤ j → j ≤ n → entry places i ≡ entry places j → i ≡ j

  -- none of them is at fault
  no_fault : AreApart forms → (n : ℕ) (places : List ℕ) → AreSent n places → (j : ℕ) → 1 ≤ j → j ≤ n → ¬ (IsAtFault images forms j)
  no_fault differ n places sent j low high (inl none) = none (entry places j) (sent.sends j low high)
  no_fault differ n places sent j low high (inr second) =
      let i = second.earlier in
      let first : 1 ≤ i = second.first.image.from_1 in
      let here : entry places j ≡ second.place = one_place differ j (entry places j) second.place (sent.sends j low high) second.again in
      let there : entry places i ≡ second.place = one_place differ i (entry places i) second.place (sent.sends i first (omega (arith, second.before, high))) second.first in
      let same : i ≡ j = sent.once i j first (omega (arith, second.before, high)) low high (there ∙ sym here) in
      absurd (omega (arith, same, second.before))

  pub AreSent-none : (places : List ℕ) → places ≡ [] → AreSent 0 places
  AreSent-none places empty = record {
    size = ap length empty;
    sends = λ j low high. absurd (omega (arith, low, high));
    once = λ i j low high _ _ _. absurd (omega (arith, low, high));
  }

  -- one image more
  module _ (n : ℕ) (places : List ℕ) (sent : AreSent n places) (form : Form) (here : slice_get images n ≡ Some form) where
    IsFormAt-here : IsFormAt images form (suc n)
    IsFormAt-here = record { from_1 = omega arith; is = (let e : suc n - 1 ≡ n = omega arith in ap (slice_get images) e) ∙ here }

    -- the places so far, as before
    entry-before : (number j : ℕ) → 1 ≤ j → j ≤ n → entry (places ++ number ∷ []) j ≡ entry places j
    entry-before number j low high =
        entry-at (places ++ number ∷ []) j low ∙ get_or_append_left places (number ∷ []) 0 (j - 1) (omega (arith, sent.size, low, high)) ∙ sym (entry-at places j low)

    entry-last : (number : ℕ) → entry (places ++ number ∷ []) (suc n) ≡ number
    entry-last number = ap (λ k. get_or (places ++ number ∷ []) k 0) (sym sent.size) ∙ get_or-append_seam places number [] 0

    -- the number of no image so far
    not_before : (number j : ℕ) → ¬ (Contains places number) → 1 ≤ j → j ≤ n → entry places j ≢ number
    not_before number j free low high e =
        let within : j - 1 < length places = omega (arith, sent.size, low, high) in
        free (j - 1, within, get_or_default places (j - 1) number 0 within ∙ sym (entry-at places j low) ∙ e)

    pub AreSent-more : (number : ℕ) (new : List ℕ) → IsFree forms places form number → new ≡ places ++ number ∷ [] → AreSent (n + 1) new
    AreSent-more number new free is = subst (AreSent (n + 1)) (sym is) record {
      size = length-append places (number ∷ []) ∙ (let e : length places + 1 ≡ n + 1 = omega (arith, sent.size) in e);
      sends = λ j low high. by_numbers j (suc n)
          (λ last. subst (λ k. Sends images forms k (entry (places ++ number ∷ []) k)) (sym last)
          (subst (Sends images forms (suc n)) (sym (entry-last number)) (record { form = form; image = IsFormAt-here; denominator = free.found })))
          (λ other. subst (Sends images forms j) (sym (entry-before number j low (omega (arith, high, other)))) (sent.sends j low (omega (arith, high, other))));
      once = λ i j low high first last e. by_numbers i (suc n)
          (λ a. by_numbers j (suc n)
          (λ b. a ∙ sym b)
          (λ b. absurd (not_before number j free.free first (omega (arith, last, b))
          (sym (entry-before number j first (omega (arith, last, b))) ∙ sym e ∙ ap (entry (places ++ number ∷ [])) a ∙ entry-last number))))
          (λ a. by_numbers j (suc n)
          (λ b. absurd (not_before number i free.free low (omega (arith, high, a))
          (sym (entry-before number i low (omega (arith, high, a))) ∙ e ∙ ap (entry (places ++ number ∷ [])) b ∙ entry-last number)))
          (λ b. sent.once i j low (omega (arith, high, a)) first (omega (arith, last, b))
          (sym (entry-before number i low (omega (arith, high, a))) ∙ e ∙ entry-before number j first (omega (arith, last, b)))));
    }

    fault_here : IsNotFree forms places form → IsAtFault images forms (suc n)
    fault_here (inl none) =
        inl (λ k s. none k (subst (λ (f : Form). IsFormAt forms f k) (same_Some s.form form (sym s.image.is ∙ IsFormAt-here.is)) s.denominator))
    fault_here (inr taken) =
        let k = taken.taken_before.0 in
        let below : k < n = omega (arith, taken.taken_before.1, sent.size) in
        inr record {
          earlier = suc k;
          before = omega (arith, below);
          place = taken.number;
          first = subst (Sends images forms (suc k)) (get_or_default places k 0 taken.number taken.taken_before.1 ∙ taken.taken_before.2) (sent.sends (suc k) (omega arith) (omega (arith, below)));
          again = record { form = form; image = IsFormAt-here; denominator = taken.found };
        }

    pub first_fault : AreApart forms → IsNotFree forms places form → n < length forms → IsFirstAtFault images forms (n + 1)
    first_fault differ not_free within = record {
      from_1 = omega arith;
      within = omega (arith, within);
      fault = subst (IsAtFault images forms) (let e : suc n ≡ n + 1 = omega arith in e) (fault_here not_free);
      first = λ i low high. no_fault differ n places sent i low (omega (arith, high));
    }

  -- all images
  pub IsSymmetry-sent : (n : ℕ) (places : List ℕ) → AreSent n places → n ≡ length forms → IsSymmetry images forms places
  IsSymmetry-sent n places sent all =
      let whole : AreSent (length forms) places = subst (λ m. AreSent m places) all sent in
      record {
        permutation = record { size = whole.size; within = λ k d below. entries_within whole k d below; once = whole.once };
        sends = whole.sends;
      }
    where
      entries_within : AreSent (length forms) places → (k d : ℕ) → k < length places → (1 ≤ get_or places k d) × (get_or places k d ≤ length forms)
      entries_within whole k d below =
          let s = whole.sends (suc k) (omega arith) (omega (arith, whole.size, below)) in
          let same : get_or places k d ≡ get_or places k 0 = get_or_default places k d 0 below in
          (omega (arith, same, s.denominator.from_1), omega (arith, same, s.denominator.from_1, slice_get_within forms (get_or places k 0 - 1) s.form s.denominator.is))

AreSent-symmetry : (images forms : List Form) (places : List ℕ) → IsSymmetry images forms places → AreSent images forms (length forms) places
AreSent-symmetry images forms places h = record { size = h.permutation.size; sends = h.sends; once = h.permutation.once }

pub one_symmetry : OneSymmetry
one_symmetry p images forms places others large independent h g =
    same_number_lists places others (h.permutation.size ∙ sym g.permutation.size)
    (λ k below.
    let within : suc k ≤ length forms = omega (arith, h.permutation.size, below) in
    one_place images forms (apart p forms large independent) (suc k) (entry places (suc k)) (entry others (suc k)) (h.sends (suc k) (omega arith) within) (g.sends (suc k) (omega arith) within))

pub fault_refutes : FaultRefutesSymmetry
fault_refutes p images forms j places large independent low high fault h =
    no_fault images forms (apart p forms large independent) (length forms) places (AreSent-symmetry images forms places h) j low high fault
