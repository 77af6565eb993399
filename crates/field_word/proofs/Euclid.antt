-- The loop of Euclid's algorithm in `Modulus::inverse`.
use Rattle.std.proofs.Common.{◌≡◌, ℕ, ◌+◌, ◌-◌, ◌*◌, ◌/◌, ◌%◌, ◌<◌, ◌≤◌, zero, suc, Bool, true, false, not, arith, subst, sym, ◌∙◌, ap}
use Rattle.std.specs.Bool.{MatchBool}
use Rattle.std.specs.Int.{IsGcd}
use Rattle.std.proofs.lemmas.Nat.Gcd.{IsGcd-from_mod, IsGcd-from_zero, IsGcd-swap}
use Rattle.std.proofs.lemmas.Nat.{mod-mul-add}
use Rattle.field_word.specs.Residues.{IsInverse}
use Rattle.std.proofs.Math.Nat.{mul-le-mul_left, mod-eq-sub-div-mul, add-mul-mod_self_right, mul-sub}

-- modulo p, u * x is r, and t * x is the opposite of d
pub record ArePair (p x d r t u : ℕ) : Type 0 where
  pub below : ℕ
  pub minus : t * x + d ≡ below * p
  pub above : ℕ
  pub plus : u * x ≡ r + above * p

-- the state before a step: the last two remainders d and r, and their multipliers without signs;
-- `is_negative` says whether d's is to be taken as negative, and r's then isn't
pub record IsEuclid (p x d r last next : ℕ) (is_negative : Bool) : Type 0 where
  pub falls : r < d
  pub whole : next * d + last * r ≡ p
  pub short : last < p
  pub same : (g : ℕ) → IsGcd d r g → IsGcd p x g
  pub pair : MatchBool is_negative (ArePair p x d r last next) (ArePair p x r d next last)

-- the new remainder e with the quotient q
pub whole_more : (p d r last next q e : ℕ) → next * d + last * r ≡ p → d ≡ q * r + e → (last + q * next) * r + next * e ≡ p
whole_more p d r last next q e w h =
    let s : next * d ≡ next * (q * r + e) = ap (λ n. next * n) h in omega arith

pub minus_more : (p x d r t u q e : ℕ) → ArePair p x d r t u → d ≡ q * r + e → ArePair p x e r (t + q * u) u
minus_more p x d r t u q e a h =
    let s : q * (u * x) ≡ q * (r + a.above * p) = ap (λ n. q * n) a.plus in
    record {
      below = a.below + q * a.above;
      minus = omega (arith, a.minus, a.plus);
      above = a.above;
      plus = a.plus;
    }

pub plus_more : (p x d r t u q e : ℕ) → ArePair p x r d u t → d ≡ q * r + e → ArePair p x r e u (t + q * u)
plus_more p x d r t u q e a h =
    let s : q * (u * x + r) ≡ q * (a.below * p) = ap (λ n. q * n) a.minus in
    record {
      below = a.below;
      minus = a.minus;
      above = a.above + q * a.below;
      plus = omega (arith, a.minus, a.plus);
    }

pub pair_more : (p x d r t u q e : ℕ) (b : Bool) → d ≡ q * r + e →
    MatchBool b (ArePair p x d r t u) (ArePair p x r d u t) →
    MatchBool (not b) (ArePair p x r e u (t + q * u)) (ArePair p x e r (t + q * u) u)
pair_more p x d r t u q e true h a = minus_more p x d r t u q e a h
pair_more p x d r t u q e false h a = plus_more p x d r t u q e a h

pub short_more : (p d r last next : ℕ) → 0 < r → r < d → next * d + last * r ≡ p → 0 < p → next < p
short_more p d r last next some falls w big =
    let two : next * 2 ≤ next * d = mul-le-mul_left next (omega arith) in omega arith

pub step : (p x d r last next : ℕ) (b : Bool) → 0 < r → IsEuclid p x d r last next b →
    IsEuclid p x r (d - d / r * r) next (last + d / r * next) (not b)
step p x d r last next b some s =
    let rest : d % r ≡ d - d / r * r = mod-eq-sub-div-mul d r in
    let cut : d ≡ d / r * r + (d - d / r * r) = omega arith in
    record {
      falls = omega arith;
      whole = whole_more p d r last next (d / r) (d - d / r * r) s.whole cut;
      short = short_more p d r last next some s.falls s.whole (omega (arith, s.short));
      same = λ g is. s.same g (IsGcd-from_mod d r g (subst (λ n. IsGcd r n g) (sym rest) is));
      pair = pair_more p x d r last next (d / r) (d - d / r * r) b cut s.pair;
    }

-- at the end d is the greatest common divisor
pub gcd_of : (p x d r last next : ℕ) (b : Bool) → r ≤ 0 → IsEuclid p x d r last next b → IsGcd x p d
gcd_of p x d r last next b none s = IsGcd-swap p x d (s.same d (IsGcd-from_zero d r (omega arith)))

pub gcd_is_1 : (p x d r last next : ℕ) (b : Bool) → r ≤ 0 → d ≡ 1 → IsEuclid p x d r last next b → IsGcd x p 1
gcd_is_1 p x d r last next b none one s = subst (IsGcd x p) one (gcd_of p x d r last next b none s)

pub mod-is_1 : (a k m p : ℕ) → 1 < p → a + k * p ≡ m * p + 1 → a % p ≡ 1
mod-is_1 a k m p big e =
    sym (add-mul-mod_self_right a k p) ∙ ap (λ n. n % p) e ∙ mod-mul-add m p 1 big

not_1 : (k p : ℕ) → 3 ≤ p → 1 ≡ k * p → ⊥
not_1 zero p big e = omega arith
not_1 (suc k) p big e = omega arith

opposite_below : (p x last k : ℕ) → 3 ≤ p → last * x + 1 ≡ k * p → p - last < p
opposite_below p x zero k big e = absurd (not_1 k p big (omega arith))
opposite_below p x (suc last) k big e = omega arith

pub inverse_is_opposite : (p x d r last next : ℕ) → 3 ≤ p → d ≡ 1 → IsEuclid p x d r last next true → IsInverse p x (p - last)
inverse_is_opposite p x d r last next big one s =
    let short : x * last ≤ x * p = mul-le-mul_left x (omega (arith, s.short)) in
    let whole : last * x + 1 ≡ s.pair.below * p = omega (arith, s.pair.minus) in
    let sum : x * (p - last) + s.pair.below * p ≡ x * p + 1 = omega (arith, mul-sub x p last) in
    record {
      below = opposite_below p x last s.pair.below big whole;
      one = mod-is_1 (x * (p - last)) s.pair.below x p (omega arith) sum;
    }

pub inverse_is_last : (p x d r last next : ℕ) → 3 ≤ p → d ≡ 1 → IsEuclid p x d r last next false → IsInverse p x last
inverse_is_last p x d r last next big one s = record {
  below = s.short;
  one = mod-is_1 (x * last) 0 s.pair.above p (omega arith) (omega (arith, s.pair.plus));
}
