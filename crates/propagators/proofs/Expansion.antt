-- The coefficient of a scalar product in the expanded product of two momenta.
use Rattle.std.proofs.Common.{◌≡◌, ◌≢◌, ℕ, suc, ◌+◌, ◌-◌, ◌*◌, ◌%◌, ◌≤◌, Bool, true, false, cond, nat_eq, List, length, get_or, refl, sym, ap, ◌∙◌, arith}
use Rattle.std.specs.Prelude.{◌&&◌, ◌||◌}
use Rattle.std.proofs.Math.Nat.{add-mod}
use borrow.Author.Tests.{eqb-true}
use Rattle.propagators.specs.Sums.{sum_to, entry}
use Rattle.propagators.specs.Forms.{expanded, is_product}
use Rattle.propagators.proofs.SumLemmas.{sum_to-same, sum_to-sum, sum_to-delta, delta, entry-at}

-- the double sum that two deltas pick from
picked : (n m i q : ℕ) (l r : ℕ → ℕ) → 1 ≤ i → i ≤ n → 1 ≤ q → q ≤ m → sum_to n (λ x. sum_to m (λ y. l x * r y * (delta x i * delta y q))) ≡ l i * r q
picked n m i q l r from within second second_within =
    sum_to-same n (λ x. sum_to m (λ y. l x * r y * (delta x i * delta y q))) (λ x. (l x * r q) * delta x i) (λ k h. inner (suc k))
    ∙ sum_to-delta n i (λ x. l x * r q) from within
  where
    inner : (x : ℕ) → sum_to m (λ y. l x * r y * (delta x i * delta y q)) ≡ (l x * r q) * delta x i
    inner x =
        sum_to-same m (λ y. l x * r y * (delta x i * delta y q)) (λ y. (l x * delta x i * r y) * delta y q) (λ k h. regroup (l x) (r (suc k)) (delta x i) (delta (suc k) q))
        ∙ sum_to-delta m q (λ y. l x * delta x i * r y) second second_within
        ∙ turn (l x) (delta x i) (r q)
      where
        regroup : (a b c d : ℕ) → a * b * (c * d) ≡ (a * c * b) * d
        regroup a b c d = omega arith

        turn : (a b c : ℕ) → a * b * c ≡ (a * c) * b
        turn a b c = omega arith

-- the test as deltas, by the four tests that it is made of
alone : (a b : Bool) → cond ((a && b) || (a && b)) 1 0 ≡ cond a 1 0 * cond b 1 0
alone true true = refl
alone true false = refl
alone false true = refl
alone false false = refl

either : (a b c d : Bool) → (a ≡ true → c ≡ true → ⊥) → cond ((a && b) || (c && d)) 1 0 ≡ cond a 1 0 * cond b 1 0 + cond c 1 0 * cond d 1 0
either true true true true apart = absurd (apart refl refl)
either true true true false apart = absurd (apart refl refl)
either true false true true apart = absurd (apart refl refl)
either true false true false apart = absurd (apart refl refl)
either true true false true apart = refl
either true true false false apart = refl
either true false false true apart = refl
either true false false false apart = refl
either false true true true apart = refl
either false true true false apart = refl
either false true false true apart = refl
either false true false false apart = refl
either false false true true apart = refl
either false false true false apart = refl
either false false false true apart = refl
either false false false false apart = refl

pub coefficient-square : (left right : List ℕ) (i : ℕ) → 1 ≤ i → i ≤ length left → i ≤ length right → expanded left right (is_product i i) ≡ entry left i * entry right i
coefficient-square left right i from within second =
    sum_to-same (length left) _ _
    (λ k h. sum_to-same (length right) _ _ (λ j g. ap (λ d. entry left (suc k) * entry right (suc j) * d) (alone (nat_eq (suc k) i) (nat_eq (suc j) i))))
    ∙ picked (length left) (length right) i i (entry left) (entry right) from within from second

pub coefficient-pair : (left right : List ℕ) (i q : ℕ) → i ≢ q → 1 ≤ i → i ≤ length left → i ≤ length right → 1 ≤ q → q ≤ length left → q ≤ length right → expanded left right (is_product i q) ≡ entry left i * entry right q + entry left q * entry right i
coefficient-pair left right i q apart from within within_right second second_within second_right =
    sum_to-same n _ (λ x. sum_to m (first x) + sum_to m (other x)) (λ k h. split (suc k))
    ∙ sum_to-sum n (λ x. sum_to m (first x)) (λ x. sum_to m (other x))
    ∙ ap (λ a. a + sum_to n (λ x. sum_to m (other x))) (picked n m i q (entry left) (entry right) from within second second_right)
    ∙ ap (λ b. entry left i * entry right q + b) (picked n m q i (entry left) (entry right) second second_within from within_right)
  where
    n : ℕ
    n = length left

    m : ℕ
    m = length right

    first : ℕ → ℕ → ℕ
    first x y = entry left x * entry right y * (delta x i * delta y q)

    other : ℕ → ℕ → ℕ
    other x y = entry left x * entry right y * (delta x q * delta y i)

    both : (x : ℕ) → nat_eq x i ≡ true → nat_eq x q ≡ true → ⊥
    both x a b = apart (sym (eqb-true x i a) ∙ eqb-true x q b)

    spread : (a b c : ℕ) → a * (b + c) ≡ a * b + a * c
    spread a b c = omega arith

    split : (x : ℕ) → sum_to m (λ y. entry left x * entry right y * is_product i q x y) ≡ sum_to m (first x) + sum_to m (other x)
    split x =
        sum_to-same m _ (λ y. first x y + other x y)
        (λ j g. ap (λ d. entry left x * entry right (suc j) * d) (either (nat_eq x i) (nat_eq (suc j) q) (nat_eq x q) (nat_eq (suc j) i) (both x))
        ∙ spread (entry left x * entry right (suc j)) (delta x i * delta (suc j) q) (delta x q * delta (suc j) i))
        ∙ sum_to-sum m (first x) (other x)

-- the coefficient as it is computed
pub square_at : (p : ℕ) (left right : List ℕ) (i q result : ℕ) → i ≡ q → 1 ≤ i → i ≤ length left → i ≤ length right → result ≡ (get_or left (i - 1) 0 * get_or right (q - 1) 0) % p → result ≡ expanded left right (is_product i q) % p
square_at p left right i q result same from within second is =
    is ∙ ap (λ n. (get_or left (i - 1) 0 * get_or right (n - 1) 0) % p) (sym same)
    ∙ sym (ap (λ n. (n * entry right i) % p) (entry-at left i from) ∙ ap (λ n. (get_or left (i - 1) 0 * n) % p) (entry-at right i from))
    ∙ ap (λ n. n % p) (sym (coefficient-square left right i from within second))
    ∙ ap (λ n. expanded left right (is_product i n) % p) same

pub pair_at : (p : ℕ) (left right : List ℕ) (i q a b result : ℕ) → i ≢ q → 1 ≤ i → i ≤ length left → i ≤ length right → 1 ≤ q → q ≤ length left → q ≤ length right → a ≡ (get_or left (i - 1) 0 * get_or right (q - 1) 0) % p → b ≡ (get_or left (q - 1) 0 * get_or right (i - 1) 0) % p → result ≡ (a + b) % p → result ≡ expanded left right (is_product i q) % p
pair_at p left right i q a b result apart from within within_right second second_within second_right one other is =
    is ∙ ap (λ n. (n + b) % p) (one ∙ ap (λ n. n % p) (turned i q from second))
    ∙ ap (λ n. ((entry left i * entry right q) % p + n) % p) (other ∙ ap (λ n. n % p) (turned q i second from))
    ∙ sym (add-mod (entry left i * entry right q) (entry left q * entry right i) p)
    ∙ ap (λ n. n % p) (sym (coefficient-pair left right i q apart from within within_right second second_within second_right))
  where
    turned : (x y : ℕ) → 1 ≤ x → 1 ≤ y → get_or left (x - 1) 0 * get_or right (y - 1) 0 ≡ entry left x * entry right y
    turned x y h g = sym (ap (λ n. n * entry right y) (entry-at left x h) ∙ ap (λ n. get_or left (x - 1) 0 * n) (entry-at right y g))
