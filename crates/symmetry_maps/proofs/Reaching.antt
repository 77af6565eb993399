-- A permutation of the numbers 1 .. n reaches each of them.
use Rattle.std.proofs.Common.{◌≡◌, ◌≢◌, ℕ, zero, suc, ◌-◌, ◌<◌, ◌≤◌, Bool, true, false, cond, List, get_or, refl, sym, ap, ◌∙◌, arith}
use Rattle.std.specs.Prelude.{◌==◌}
use Rattle.std.proofs.lemmas.Bool.Decides.{nat_tests}
use Rattle.propagators.specs.Sums.{entry}
use Rattle.symmetry_maps.specs.Permutation.{IsPermutationOf}

pub by_numbers : {G : Type 0} (m n : ℕ) → (m ≡ n → G) → (m ≢ n → G) → G
by_numbers {G} m n same other = by (m == n) refl
  where
    by : (b : Bool) → (m == n) ≡ b → G
    by true e = let h : m ≡ n = grind (arith, nat_tests) in same h
    by false e = let h : m ≢ n = grind (arith, nat_tests) in other h

-- a map of the numbers below n to numbers below n under which no two have the same image
record IsInjection (n : ℕ) (f : ℕ → ℕ) : Type 0 where
  below : (i : ℕ) → i < n → f i < n
  apart : (i j : ℕ) → i < n → j < n → f i ≡ f j → i ≡ j

-- the map without the number n, whose image stands for n as an image
abbrev without : ℕ → (ℕ → ℕ) → ℕ → ℕ
without n f i = cond (f i == n) (f n) (f i)

without-here : (n : ℕ) (f : ℕ → ℕ) (i : ℕ) → f i ≡ n → without n f i ≡ f n
without-here n f i e = let same : (f i == n) ≡ true = grind (arith, nat_tests) in ap (λ b. cond b (f n) (f i)) same

without-other : (n : ℕ) (f : ℕ → ℕ) (i : ℕ) → f i ≢ n → without n f i ≡ f i
without-other n f i e = let other : (f i == n) ≡ false = grind (arith, nat_tests) in ap (λ b. cond b (f n) (f i)) other

module _ (n : ℕ) (f : ℕ → ℕ) (h : IsInjection (suc n) f) where
  -- the image of n is that of no number below
  last_apart : (i : ℕ) → i < n → f i ≢ f n
  last_apart i below e =
      let same : i ≡ n = h.apart i n (omega arith) (omega arith) e in
      absurd (omega (arith, same, below))

  without-below : (i : ℕ) → i < n → without n f i < n
  without-below i below =
      by_numbers (f i) n
      (λ e.
      let is = without-here n f i e in
      let within : f n < suc n = h.below n (omega arith) in
      let differs : f n ≢ n = λ g. last_apart i below (e ∙ sym g) in
      omega (arith, is, within, differs))
      (λ e.
      let is = without-other n f i e in
      let within : f i < suc n = h.below i (omega arith) in
      omega (arith, is, within, e))

  without-apart : (i j : ℕ) → i < n → j < n → without n f i ≡ without n f j → i ≡ j
  without-apart i j below under e =
      by_numbers (f i) n
      (λ a. by_numbers (f j) n
      (λ b. h.apart i j (omega arith) (omega arith) (a ∙ sym b))
      (λ b. absurd (last_apart j under (sym (without-other n f j b) ∙ sym e ∙ without-here n f i a))))
      (λ a. by_numbers (f j) n
      (λ b. absurd (last_apart i below (sym (without-other n f i a) ∙ e ∙ without-here n f j b)))
      (λ b. h.apart i j (omega arith) (omega arith) (sym (without-other n f i a) ∙ e ∙ without-other n f j b)))

  IsInjection-without : IsInjection n (without n f)
  IsInjection-without = record { below = without-below; apart = without-apart }

record HasImage (n : ℕ) (f : ℕ → ℕ) (k : ℕ) : Type 0 where
  number : ℕ
  below : number < n
  is : f number ≡ k

reaches : (n : ℕ) (f : ℕ → ℕ) → IsInjection n f → (k : ℕ) → k < n → HasImage n f k
reaches zero f h k below = absurd (omega (arith, below))
reaches (suc n) f h k below =
    by_numbers (f n) k
    (λ here. record { number = n; below = omega arith; is = here })
    (λ there. by_numbers k n
    -- n itself is reached where the smaller map reaches the image of n
    (λ last.
    let within : f n < suc n = h.below n (omega arith) in
    let r = reaches n (without n f) (IsInjection-without n f h) (f n) (omega (arith, within, there, last)) in
    by_numbers (f r.number) n
    (λ e. record { number = r.number; below = omega (arith, r.below); is = e ∙ sym last })
    (λ e. absurd (last_apart n f h r.number r.below (sym (without-other n f r.number e) ∙ r.is))))
    (λ other.
    let r = reaches n (without n f) (IsInjection-without n f h) k (omega (arith, below, other)) in
    by_numbers (f r.number) n
    (λ e. absurd (there (sym (without-here n f r.number e) ∙ r.is)))
    (λ e. record { number = r.number; below = omega (arith, r.below); is = sym (without-other n f r.number e) ∙ r.is })))

-- the number that the permutation sends to this one
pub record IsReached (n : ℕ) (places : List ℕ) (k : ℕ) : Type 0 where
  pub number : ℕ
  pub from_1 : 1 ≤ number
  pub within : number ≤ n
  pub is : entry places number ≡ k

module _ (n : ℕ) (places : List ℕ) (h : IsPermutationOf n places) where
  abbrev from_0 : ℕ → ℕ
  from_0 i = get_or places i 0 - 1

  pub entry_within : (i : ℕ) → i < n → (1 ≤ get_or places i 0) × (get_or places i 0 ≤ n)
  entry_within i below = h.within i 0 (omega (arith, h.size, below))

  IsInjection-from_0 : IsInjection n from_0
  IsInjection-from_0 = record {
    below = λ i b. omega (arith, (entry_within i b).0, (entry_within i b).1);
    apart = λ i j b u e.
        let same : get_or places i 0 ≡ get_or places j 0 = omega (arith, e, (entry_within i b).0, (entry_within j u).0) in
        let one : suc i ≡ suc j = h.once (suc i) (suc j) (omega arith) (omega arith) (omega arith) (omega arith) same in
        omega (arith, one);
  }

  pub each_reached : (k : ℕ) → 1 ≤ k → k ≤ n → IsReached n places k
  each_reached k low high =
      let r = reaches n from_0 IsInjection-from_0 (k - 1) (omega (arith, low, high)) in
      record {
        number = suc r.number;
        from_1 = omega arith;
        within = omega (arith, r.below);
        is = omega (arith, r.is, low, (entry_within r.number r.below).0);
      }
