-- Sums of values, numbered from 1.
use Rattle.std.proofs.Common.{◌≡◌, ◌≢◌, ℕ, zero, suc, ◌+◌, ◌-◌, ◌*◌, ◌%◌, ◌<◌, ◌≤◌, Bool, true, false, cond, nat_eq, List, get_or, refl, sym, ap, ◌∙◌, arith, inl, inr}
use Rattle.std.proofs.Math.Nat.{add-mod}
use Rattle.std.proofs.lemmas.Nat.{mul-mod_first}
use borrow.Author.Tests.{eqb-true, eqb-false}
use Rattle.std.proofs.lemmas.Bool.{cases_eq}
use Rattle.propagators.specs.Sums.{sum_to, entry}

-- equal terms
pub sum_to-same : (n : ℕ) (f g : ℕ → ℕ) → ((k : ℕ) → k < n → f (suc k) ≡ g (suc k)) → sum_to n f ≡ sum_to n g
sum_to-same zero f g same = refl
sum_to-same (suc n) f g same =
    let rest : sum_to n f ≡ sum_to n g = sum_to-same n f g (λ k h. same k (omega arith)) in
    let last : f (suc n) ≡ g (suc n) = same n (omega arith) in
    omega arith

-- terms that are equal modulo p
pub sum_to-mod : (p n : ℕ) (f g : ℕ → ℕ) → ((k : ℕ) → k < n → f (suc k) % p ≡ g (suc k) % p) → sum_to n f % p ≡ sum_to n g % p
sum_to-mod p zero f g same = refl
sum_to-mod p (suc n) f g same =
    let rest : sum_to n f % p ≡ sum_to n g % p = sum_to-mod p n f g (λ k h. same k (omega arith)) in
    let last : f (suc n) % p ≡ g (suc n) % p = same n (omega arith) in
    add-mod (sum_to n f) (f (suc n)) p ∙ ap (λ a. (a + f (suc n) % p) % p) rest ∙ ap (λ b. (sum_to n g % p + b) % p) last
    ∙ sym (add-mod (sum_to n g) (g (suc n)) p)

pub sum_to-sum : (n : ℕ) (f g : ℕ → ℕ) → sum_to n (λ x. f x + g x) ≡ sum_to n f + sum_to n g
sum_to-sum zero f g = refl
sum_to-sum (suc n) f g = omega (arith, sum_to-sum n f g)

pub sum_to-scaled : (n a : ℕ) (f : ℕ → ℕ) → sum_to n (λ x. a * f x) ≡ a * sum_to n f
sum_to-scaled zero a f = omega arith
sum_to-scaled (suc n) a f = let rest : sum_to n (λ x. a * f x) ≡ a * sum_to n f = sum_to-scaled n a f in omega arith

pub sum_to-zero : (n : ℕ) (f : ℕ → ℕ) → ((k : ℕ) → k < n → f (suc k) ≡ 0) → sum_to n f ≡ 0
sum_to-zero zero f none = refl
sum_to-zero (suc n) f none =
    let rest : sum_to n f ≡ 0 = sum_to-zero n f (λ k h. none k (omega arith)) in
    let last : f (suc n) ≡ 0 = none n (omega arith) in
    omega arith

-- the order of two sums is free
pub sum_to-swap : (n m : ℕ) (f : ℕ → ℕ → ℕ) → sum_to n (λ x. sum_to m (λ y. f x y)) ≡ sum_to m (λ y. sum_to n (λ x. f x y))
sum_to-swap zero m f = sym (sum_to-zero m (λ y. 0) (λ k h. refl))
sum_to-swap (suc n) m f =
    ap (λ a. a + sum_to m (λ y. f (suc n) y)) (sum_to-swap n m f) ∙ sym (sum_to-sum m (λ y. sum_to n (λ x. f x y)) (λ y. f (suc n) y))

-- the first term apart
pub sum_to-first : (n : ℕ) (f : ℕ → ℕ) → sum_to (suc n) f ≡ f 1 + sum_to n (λ x. f (suc x))
sum_to-first zero f = omega arith
sum_to-first (suc n) f = let rest : sum_to (suc n) f ≡ f 1 + sum_to n (λ x. f (suc x)) = sum_to-first n f in omega arith

-- 1 at one number
abbrev pub delta : ℕ → ℕ → ℕ
delta x i = cond (nat_eq x i) 1 0

delta-of : (b : Bool) (x i a : ℕ) → nat_eq x i ≡ b → (x ≡ i → b ≡ true) → a * cond b 1 0 ≡ cond b a 0
delta-of true x i a e h = omega arith
delta-of false x i a e h = omega arith

pub delta-same : (x : ℕ) → delta x x ≡ 1
delta-same x = go (nat_eq x x) refl
  where
    go : (b : Bool) → nat_eq x x ≡ b → cond {A = ℕ} b 1 0 ≡ 1
    go true e = refl
    go false e = absurd (eqb-false x x e refl)

pub delta-other : (x i : ℕ) → x ≢ i → delta x i ≡ 0
delta-other x i other = go (nat_eq x i) refl
  where
    go : (b : Bool) → nat_eq x i ≡ b → cond {A = ℕ} b 1 0 ≡ 0
    go true e = absurd (other (eqb-true x i e))
    go false e = refl

times_delta-same : (a x i : ℕ) → x ≡ i → a * delta x i ≡ a
times_delta-same a x i e = ap (λ j. a * delta x j) (sym e) ∙ ap (λ d. a * d) (delta-same x) ∙ omega arith

times_delta-other : (a x i : ℕ) → x ≢ i → a * delta x i ≡ 0
times_delta-other a x i other = ap (λ d. a * d) (delta-other x i other) ∙ omega arith

pub sum_to-beyond : (n i : ℕ) (f : ℕ → ℕ) → n < i → sum_to n (λ x. f x * delta x i) ≡ 0
sum_to-beyond n i f h = sum_to-zero n (λ x. f x * delta x i) (λ k less. times_delta-other (f (suc k)) (suc k) i (λ e. absurd (omega arith)))

-- the one term that delta leaves
pub sum_to-delta : (n i : ℕ) (f : ℕ → ℕ) → 1 ≤ i → i ≤ n → sum_to n (λ x. f x * delta x i) ≡ f i
sum_to-delta zero i f from within = absurd (omega arith)
sum_to-delta (suc n) i f from within = elim (cases_eq (suc n) i) [
  | inl e ↦ let rest : sum_to n (λ x. f x * delta x i) ≡ 0 = sum_to-beyond n i f (omega arith) in
      let last : f (suc n) * delta (suc n) i ≡ f (suc n) = times_delta-same (f (suc n)) (suc n) i e in
      let at : f (suc n) ≡ f i = ap f e in
      omega arith
  | inr other ↦ let rest : sum_to n (λ x. f x * delta x i) ≡ f i = sum_to-delta n i f from (omega arith) in
      let last : f (suc n) * delta (suc n) i ≡ 0 = times_delta-other (f (suc n)) (suc n) i other in
      omega arith
]

-- an entry by its place from 0
pub entry-at : (xs : List ℕ) (n : ℕ) → 1 ≤ n → entry xs n ≡ get_or xs (n - 1) 0
entry-at xs zero h = absurd (omega arith)
entry-at xs (suc n) h = ap (λ k. get_or xs k 0) (let g : n ≡ suc n - 1 = omega arith in g)

pub entry-next : (xs : List ℕ) (n : ℕ) → entry xs (n + 1) ≡ get_or xs n 0
entry-next xs n = ap (entry xs) (let g : n + 1 ≡ suc n = omega arith in g)

-- one more term, of residues
pub more : (p n s t : ℕ) (f : ℕ → ℕ) → s ≡ sum_to n f % p → t ≡ f (n + 1) % p → (s + t) % p ≡ sum_to (n + 1) f % p
more p n s t f e d =
    let next : n + 1 ≡ suc n = omega arith in
    ap (λ a. (a + t) % p) e ∙ ap (λ b. (sum_to n f % p + b) % p) (d ∙ ap (λ k. f k % p) next) ∙ sym (add-mod (sum_to n f) (f (suc n)) p)
    ∙ ap (λ k. sum_to k f % p) (sym next)

-- a term as it is computed
pub term : (p left both v w t y : ℕ) (right : List ℕ) → both ≡ (left * get_or right y 0) % p → v ≡ w → t ≡ (both * v) % p → t ≡ (left * entry right (y + 1) * w) % p
term p left both v w t y right product value is =
    is ∙ ap (λ a. (a * v) % p) product ∙ mul-mod_first (left * get_or right y 0) v p
    ∙ ap (λ a. (left * a * v) % p) (sym (entry-next right y)) ∙ ap (λ a. (left * entry right (y + 1) * a) % p) value
