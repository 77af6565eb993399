-- What may stand behind the first indices of a list, index by index.
use Rattle.std.proofs.Common.{◌≡◌, ◌≢◌, ℕ, zero, suc, ◌+◌, ◌-◌, ◌*◌, ◌/◌, ◌%◌, ◌^◌, ◌==◌, ◌<◌, ◌≤◌, Bool, true, false, cond, ℤ, pos, negsuc, ◌-ℤ◌, List, [], ◌∷◌, ◌++◌, length, refl, sym, ap, subst, ◌∙◌, arith, append_assoc, append-nil, take, set, Result, Ok}
use Rattle.std.specs.Prelude.{◌↔◌}
use Rattle.std.proofs.lemmas.Bool.Decides.{nat_tests}
use Rattle.std.proofs.lemmas.Int.{ints}
use Rattle.std.proofs.lemmas.List.{take_more_set}
use Rattle.std.proofs.lemmas.List.Sums.{sum_by-cons}
use Rattle.std.proofs.Math.Nat.{pow-suc}
use Rattle.integral_index.specs.Integral.{Integral, IsIndex, positive_part, negative_part, is_positive, sector_of, t_of, r_of, s_of}
use Rattle.integral_index.proofs.IndexLists.{t_of-le-r_of}
use Rattle.seed_sets.specs.declared.endings.Rest.{Rest}
use Rattle.seed_sets.specs.Endings.{IsEnding, Continues, is_next, choices_by, choices, minus, index_by, index_at, after_by, after}
use Rattle.seed_sets.specs.Gathering.{IsBefore}

pub minus-is : (n : ℕ) → minus n ≡ pos 0 -ℤ pos n
minus-is zero = omega (arith, ints)
minus-is (suc n) = omega (arith, ints)

-- a number by its lowest bit
half : (n : ℕ) → n ≡ cond (n % 2 == 1) 1 0 + 2 * (n / 2)
half n = grind (arith, nat_tests)

r_of-cons : (a : ℤ) (tail : List ℤ) → r_of (a ∷ tail) ≡ positive_part a + r_of tail
r_of-cons a tail = sum_by-cons positive_part a tail

s_of-cons : (a : ℤ) (tail : List ℤ) → s_of (a ∷ tail) ≡ negative_part a + s_of tail
s_of-cons a tail = sum_by-cons negative_part a tail

t_of-cons : (a : ℤ) (tail : List ℤ) → t_of (a ∷ tail) ≡ cond (is_positive a) 1 0 + t_of tail
t_of-cons a tail = sum_by-cons (λ y. cond (is_positive y) 1 0) a tail

is_positive-suc : (n : ℕ) → is_positive (pos (suc n)) ≡ true
is_positive-suc n = grind (arith, nat_tests)

sector_of-positive : (n : ℕ) (tail : List ℤ) → sector_of (pos (suc n) ∷ tail) ≡ 1 + 2 * sector_of tail
sector_of-positive n tail = ap (λ b. cond b 1 0 + 2 * sector_of tail) (is_positive-suc n)

t_of-positive : (n : ℕ) (tail : List ℤ) → t_of (pos (suc n) ∷ tail) ≡ 1 + t_of tail
t_of-positive n tail = t_of-cons (pos (suc n)) tail ∙ ap (λ b. cond b 1 0 + t_of tail) (is_positive-suc n)

twice_odd : (m n k l : ℕ) → m ≡ 1 + 2 * k → n ≡ 0 + 2 * l → m ≢ n
twice_odd m n k l e f same = absurd (omega arith)

suc_first : (n m : ℕ) → suc n + m ≡ 1 + n + m
suc_first n m = omega arith

-- the rest, where its lowest bit is this one
module _ (rest : Rest) (some : 0 < rest.places) where
  to_by : (b : Bool) (k : ℕ) (tail : List ℤ) → rest.sector ≡ cond b 1 0 + 2 * (rest.sector / 2) → k < choices_by b rest → IsEnding (after_by b rest k) tail → IsEnding rest (index_by b k ∷ tail)
  to_by true k tail bit below h = record {
    places = omega (arith, h.places);
    sector = sector_of-positive k tail ∙ ap (λ n. 1 + 2 * n) h.sector ∙ sym bit;
    dots = (let t = t_of-positive k tail in let r = r_of-cons (pos (suc k)) tail in let low = h.dots in subst (λ (n : ℕ). r_of (pos (suc k) ∷ tail) ≤ n + rest.dots) (sym t) (subst (λ (n : ℕ). n ≤ 1 + t_of tail + rest.dots) (sym r) (omega (arith, low, below))));
    s = omega (arith, h.s, s_of-cons (pos (suc k)) tail);
  }
  to_by false zero tail bit below h = record {
    places = omega (arith, h.places);
    sector = omega (arith, h.sector, bit);
    dots = omega (arith, h.dots, r_of-cons (pos 0) tail, t_of-cons (pos 0) tail);
    s = omega (arith, h.s, s_of-cons (pos 0) tail);
  }
  to_by false (suc k) tail bit below h = record {
    places = omega (arith, h.places);
    sector = omega (arith, h.sector, bit);
    dots = omega (arith, h.dots, r_of-cons (negsuc k) tail, t_of-cons (negsuc k) tail);
    s = omega (arith, h.s, below, s_of-cons (negsuc k) tail);
  }

  Found : Bool → ℤ → List ℤ → Type 0
  Found b a tail = (k : ℕ) × (k < choices_by b rest) × (index_by b k ≡ a) × IsEnding (after_by b rest k) tail

  from_by : (b : Bool) (a : ℤ) (tail : List ℤ) → rest.sector ≡ cond b 1 0 + 2 * (rest.sector / 2) → IsEnding rest (a ∷ tail) → Found b a tail
  unfolding Found
  from_by true (pos (suc n)) tail bit h =
      let sector = sym (sector_of-positive n tail) ∙ h.sector in
      let dots : 1 + n + r_of tail ≤ 1 + t_of tail + rest.dots =
      subst (λ (m : ℕ). m ≤ 1 + t_of tail + rest.dots) (r_of-cons (pos (suc n)) tail ∙ suc_first n (r_of tail))
      (subst (λ (m : ℕ). r_of (pos (suc n) ∷ tail) ≤ m + rest.dots) (t_of-positive n tail) h.dots) in
      let low = t_of-le-r_of tail in (
        n,
        omega (arith, dots, low),
        refl,
        record {
          places = omega (arith, h.places);
          sector = omega (arith, sector, bit);
          dots = omega (arith, dots, low);
          s = omega (arith, h.s, s_of-cons (pos (suc n)) tail);
        },
      )
  from_by true (pos zero) tail bit h = absurd (omega (arith, h.sector, bit))
  from_by true (negsuc n) tail bit h = absurd (omega (arith, h.sector, bit))
  from_by false (pos (suc n)) tail bit h = absurd (twice_odd _ _ _ _ (sym h.sector ∙ sector_of-positive n tail) bit refl)
  from_by false (pos zero) tail bit h = (
    0,
    omega arith,
    refl,
    record {
      places = omega (arith, h.places);
      sector = omega (arith, h.sector, bit);
      dots = omega (arith, h.dots, r_of-cons (pos 0) tail, t_of-cons (pos 0) tail);
      s = omega (arith, h.s, s_of-cons (pos 0) tail);
    },
  )
  from_by false (negsuc n) tail bit h = (
    suc n,
    omega (arith, h.s, s_of-cons (negsuc n) tail),
    refl,
    record {
      places = omega (arith, h.places);
      sector = omega (arith, h.sector, bit);
      dots = omega (arith, h.dots, r_of-cons (negsuc n) tail, t_of-cons (negsuc n) tail);
      s = omega (arith, h.s, s_of-cons (negsuc n) tail);
    },
  )

  step_to : (family : ℕ) (first : List ℤ) (x : Integral) → Continues family first rest x → IsBefore (choices rest) (λ k. Continues family (first ++ index_at rest k ∷ []) (after rest k)) x
  unfolding Found
  step_to family first x h = by h.ending h.indices h.is_ending
    where
      by : (ending : List ℤ) → x.indices ≡ first ++ ending → IsEnding rest ending → IsBefore (choices rest) (λ k. Continues family (first ++ index_at rest k ∷ []) (after rest k)) x
      by [] is e = absurd (omega (arith, e.places))
      by (a ∷ tail) is e =
          let found = from_by (is_next rest) a tail (half rest.sector) e in (
            found.0,
            found.1,
            record {
              ending = tail;
              same_family = h.same_family;
              indices = is ∙ ap (λ b. first ++ (b ∷ tail)) (sym found.2) ∙ sym (append_assoc first (index_at rest found.0 ∷ []) tail);
              is_ending = found.3;
            },
          )

  step_from : (family : ℕ) (first : List ℤ) (x : Integral) → IsBefore (choices rest) (λ k. Continues family (first ++ index_at rest k ∷ []) (after rest k)) x → Continues family first rest x
  step_from family first x w = record {
    ending = index_at rest w.0 ∷ w.2.ending;
    same_family = w.2.same_family;
    indices = w.2.indices ∙ append_assoc first (index_at rest w.0 ∷ []) w.2.ending;
    is_ending = to_by (is_next rest) w.0 w.2.ending (half rest.sector) w.1 w.2.is_ending;
  }

  -- what goes on is what goes on behind one of the choices
  pub Continues-step : (family : ℕ) (first : List ℤ) (x : Integral) → IsBefore (choices rest) (λ k. Continues family (first ++ index_at rest k ∷ []) (after rest k)) x ↔ Continues family first rest x
  Continues-step family first x = (step_from family first x, step_to family first x)

-- no place is left
pub Continues-none : (rest : Rest) → rest.places ≡ 0 → rest.sector < 2 ^ rest.places → (family : ℕ) (first : List ℤ) (x : Integral) → x ≡ record { family = family; indices = first } → (y : Integral) → (x ≡ y) ↔ Continues family first rest y
Continues-none rest none small family first x is y = (to, from)
  where
    to : x ≡ y → Continues family first rest y
    to e =
        let same : y ≡ record { family = family; indices = first } = sym e ∙ is in record {
          ending = [];
          same_family = ap (λ (z : Integral). z.family) same;
          indices = ap (λ (z : Integral). z.indices) same ∙ sym (append-nil first);
          is_ending = record {
            places = sym none;
            sector = omega (arith, subst (λ (n : ℕ). rest.sector < 2 ^ n) none small);
            dots = omega arith;
            s = omega arith;
          };
        }

    from : Continues family first rest y → x ≡ y
    from h = by h.ending h.indices (h.is_ending.places ∙ none)
      where
        by : (ending : List ℤ) → y.indices ≡ first ++ ending → length ending ≡ 0 → x ≡ y
        by [] at e = is ∙ (λ i. record { family = sym h.same_family i; indices = sym (at ∙ append-nil first) i })
        by (a ∷ tail) at e = absurd (omega (arith, e))

-- each choice is an index that an integral may have
pub IsIndex-at : (rest : Rest) → rest.dots ≤ 100 → rest.s ≤ 100 → (k : ℕ) → k < choices rest → IsIndex (index_at rest k)
IsIndex-at rest dots s = by (is_next rest)
  where
    by : (b : Bool) (k : ℕ) → k < choices_by b rest → IsIndex (index_by b k)
    by true k below = (omega (arith, below), omega arith)
    by false zero below = (omega arith, omega arith)
    by false (suc k) below = (omega arith, omega (arith, below))

-- what is left behind a choice is within the bounds
pub record IsWithin (rest : Rest) : Type 0 where
  pub sector : rest.sector < 2 ^ rest.places
  pub dots : rest.dots ≤ 100
  pub s : rest.s ≤ 100

turned : (n : ℕ) → n * 2 ≡ 2 * n
turned n = omega arith

half_below : (m n : ℕ) → 0 < n → m < 2 ^ n → m / 2 < 2 ^ (n - 1)
half_below m n some h =
    let next : n ≡ suc (n - 1) = omega arith in
    let e : 2 ^ n ≡ 2 * 2 ^ (n - 1) = ap (λ k. 2 ^ k) next ∙ pow-suc 2 (n - 1) ∙ turned (2 ^ (n - 1)) in
    omega (arith, e, h)

pub IsWithin-after : (rest : Rest) → 0 < rest.places → IsWithin rest → (k : ℕ) → IsWithin (after rest k)
IsWithin-after rest some h = by (is_next rest)
  where
    by : (b : Bool) (k : ℕ) → IsWithin (after_by b rest k)
    by true k = record { sector = half_below rest.sector rest.places some h.sector; dots = omega (arith, h.dots); s = h.s }
    by false k = record { sector = half_below rest.sector rest.places some h.sector; dots = h.dots; s = omega (arith, h.s) }

pub after-places : (rest : Rest) (k : ℕ) → (after rest k).places ≡ rest.places - 1
after-places rest k = by (is_next rest)
  where
    by : (b : Bool) → (after_by b rest k).places ≡ rest.places - 1
    by true = refl
    by false = refl

same_ok : {T E : Type 0} (r : Result T E) (x y : T) → r ≡ Ok x → r ≡ Ok y → x ≡ y
same_ok r x y e f = cc

-- an integral that was made of the first indices alone
pub Continues-made : {E : Type 0} (rest : Rest) → rest.places ≡ 0 → rest.sector < 2 ^ rest.places → (family : ℕ) (first : List ℤ) (x : Integral) (r : Result Integral E) → r ≡ Ok x → r ≡ Ok (record { family = family; indices = first }) → (y : Integral) → (x ≡ y) ↔ Continues family first rest y
Continues-made rest none small family first x r was e = Continues-none rest none small family first x (same_ok r x _ was e)

-- the first indices with one more
pub first_more : (indices : List ℤ) (place : ℕ) (a b : ℤ) → place < length indices → a ≡ b → take (place + 1) (set indices place a) ≡ take place indices ++ b ∷ []
first_more indices place a b within e = take_more_set indices place a within ∙ ap (λ z. take place indices ++ z ∷ []) e

pub Continues-along : (family : ℕ) (some first : List ℤ) (r rest : Rest) → some ≡ first → r ≡ rest → (x : Integral) → Continues family some r x ↔ Continues family first rest x
Continues-along family some first r rest e f x = (
  λ h. subst (λ (fs : List ℤ). Continues family fs rest x) e (subst (λ (q : Rest). Continues family some q x) f h),
  λ h. subst (λ (fs : List ℤ). Continues family fs r x) (sym e) (subst (λ (q : Rest). Continues family first q x) (sym f) h),
)
