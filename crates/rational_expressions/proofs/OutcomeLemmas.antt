-- An expression has at most one outcome.
use Rattle.std.proofs.Common.{◌≡◌, ◌<◌, ◌*◌, ◌%◌, ℕ, Ok, Err, List, arith, sym, ap, subst, ◌∙◌}
use Rattle.std.specs.Int.{IsGcd, ◌∣◌}
use Rattle.std.proofs.Math.Nat.{mod-eq_of_lt, dvd-mod_iff, dvd-mul_right_of_dvd, eq-one_of_dvd-one}
use Rattle.std.proofs.lemmas.Nat.{mul-mod_first, mul-mod_second}
use Rattle.std.proofs.lemmas.Nat.Gcd.{same_from_IsGcd}
use Rattle.field_word.specs.Residues.{product_of, IsInverse}
use Rattle.rational_expressions.specs.declared.faults.ValueFault.TheVariants as value_fault
use Rattle.rational_expressions.specs.Trees.{Tree, number, place, negative, sum, difference, product, quotient, power}
use Rattle.rational_expressions.specs.Evaluation.{Outcome, After, IsQuotient, HasOutcome}

-- modulo p there is at most one inverse
one_inverse : (p y z w : ℕ) → 1 < p → IsInverse p y z → IsInverse p y w → z ≡ w
one_inverse p y z w big a b =
    let left : (z * ((y * w) % p)) % p ≡ z = ap (λ q. (z * q) % p) b.one ∙ ap (λ q. q % p) (omega arith) ∙ mod-eq_of_lt a.below in
    let right : (((y * z) % p) * w) % p ≡ w = ap (λ q. (q * w) % p) a.one ∙ ap (λ q. q % p) (omega arith) ∙ mod-eq_of_lt b.below in
    let turn : z * (y * w) ≡ y * z * w = omega arith in
    sym left ∙ mul-mod_second z (y * w) p ∙ ap (λ q. q % p) turn ∙ sym (mul-mod_first (y * z) w p) ∙ right

no_inverse_of_0 : (p y z : ℕ) → 1 < p → y ≡ 0 → IsInverse p y z → ⊥
no_inverse_of_0 p y z big none a =
    let e : (0 * z) % p ≡ 1 = subst (λ q. (q * z) % p ≡ 1) none a.one in
    let zero : (0 * z) % p ≡ 0 = ap (λ q. q % p) (omega arith) ∙ mod-eq_of_lt (omega arith) in
    absurd (omega arith)

-- what has an inverse shares no divisor with p
gcd_with_inverse : (p y z d : ℕ) → IsInverse p y z → IsGcd y p d → d ≡ 1
gcd_with_inverse p y z d a g =
    let whole : d ∣ y * z = dvd-mul_right_of_dvd d g.0 z in
    let rest : d ∣ (y * z) % p = (dvd-mod_iff d g.1).1 whole in
    eq-one_of_dvd-one (subst (λ q. d ∣ q) a.one rest)

one_quotient : (p at x y : ℕ) (r q : Outcome) → 1 < p → IsQuotient p at x y r → IsQuotient p at x y q → r ≡ q
one_quotient p at x y (Ok v) (Ok w) big h k = ap Ok (h.2 ∙ ap (λ z. product_of p x z) (one_inverse p y h.0 k.0 big h.1 k.1) ∙ sym k.2)
one_quotient p at x y (Ok v) (Err (value_fault.ZeroDivisor a)) big h k = absurd (no_inverse_of_0 p y h.0 big k.0 h.1)
one_quotient p at x y (Ok v) (Err (value_fault.Composite c)) big h k = absurd (k.2 (gcd_with_inverse p y h.0 c.divisor h.1 k.1))
one_quotient p at x y (Err (value_fault.ZeroDivisor a)) (Ok w) big h k = absurd (no_inverse_of_0 p y k.0 big h.0 k.1)
one_quotient p at x y (Err (value_fault.ZeroDivisor a)) (Err (value_fault.ZeroDivisor b)) big h k = ap (λ q. Err (value_fault.ZeroDivisor q)) (h.1 ∙ sym k.1)
one_quotient p at x y (Err (value_fault.ZeroDivisor a)) (Err (value_fault.Composite c)) big h k = absurd (k.0 h.0)
one_quotient p at x y (Err (value_fault.Composite c)) (Ok w) big h k = absurd (h.2 (gcd_with_inverse p y k.0 c.divisor k.1 h.1))
one_quotient p at x y (Err (value_fault.Composite c)) (Err (value_fault.ZeroDivisor b)) big h k = absurd (h.0 k.0)
one_quotient p at x y (Err (value_fault.Composite c)) (Err (value_fault.Composite d)) big h k =
    ap (λ q. Err (value_fault.Composite (record { divisor = q }))) (same_from_IsGcd y p c.divisor d.divisor h.1 k.1)

one_after : (a b : Outcome) (P : ℕ → Outcome → Type 0) (r q : Outcome) → a ≡ b → ((x : ℕ) (s t : Outcome) → P x s → P x t → s ≡ t) → After a P r → After b P q → r ≡ q
one_after a b P r q e same h k = go b (subst (λ o. After o P r) e h) k
  where
    go : (o : Outcome) → After o P r → After o P q → r ≡ q
    go (Ok x) h k = same x r q h k
    go (Err f) h k = h ∙ sym k

pub one_outcome : (p : ℕ) (rs : List ℕ) (t : Tree) (r q : Outcome) → 1 < p → HasOutcome p rs t r → HasOutcome p rs t q → r ≡ q
one_outcome p rs (number n) r q big h k = h ∙ sym k
one_outcome p rs (place i) r q big h k = h ∙ sym k
one_outcome p rs (negative t) r q big h k = one_after h.0 k.0 _ r q (one_outcome p rs t h.0 k.0 big h.1 k.1) (λ x s o a b. a ∙ sym b) h.2 k.2
one_outcome p rs (sum t u) r q big h k =
    one_after h.0 k.0 _ r q (one_outcome p rs t h.0 k.0 big h.1 k.1)
    (λ x s o a b. one_after a.0 b.0 _ s o (one_outcome p rs u a.0 b.0 big a.1 b.1) (λ y m n c d. c ∙ sym d) a.2 b.2) h.2 k.2
one_outcome p rs (difference t u) r q big h k =
    one_after h.0 k.0 _ r q (one_outcome p rs t h.0 k.0 big h.1 k.1)
    (λ x s o a b. one_after a.0 b.0 _ s o (one_outcome p rs u a.0 b.0 big a.1 b.1) (λ y m n c d. c ∙ sym d) a.2 b.2) h.2 k.2
one_outcome p rs (product t u) r q big h k =
    one_after h.0 k.0 _ r q (one_outcome p rs t h.0 k.0 big h.1 k.1)
    (λ x s o a b. one_after a.0 b.0 _ s o (one_outcome p rs u a.0 b.0 big a.1 b.1) (λ y m n c d. c ∙ sym d) a.2 b.2) h.2 k.2
one_outcome p rs (quotient at t u) r q big h k =
    one_after h.0 k.0 _ r q (one_outcome p rs t h.0 k.0 big h.1 k.1)
    (λ x s o a b. one_after a.0 b.0 _ s o (one_outcome p rs u a.0 b.0 big a.1 b.1) (λ y m n c d. one_quotient p at x y m n big c d) a.2 b.2) h.2 k.2
one_outcome p rs (power t n) r q big h k = one_after h.0 k.0 _ r q (one_outcome p rs t h.0 k.0 big h.1 k.1) (λ x s o a b. a ∙ sym b) h.2 k.2
