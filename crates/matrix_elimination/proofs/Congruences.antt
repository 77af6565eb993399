-- Numbers that are equal modulo p.
use Rattle.std.proofs.Common.{◌≡◌, ℕ, ◌+◌, ◌-◌, ◌*◌, ◌%◌, ◌<◌, refl, sym, ap, ◌∙◌, arith, add-zero, add_assoc}
use Rattle.std.proofs.Math.Nat.{add-mod, mod-add-mod, add-mod-mod, mod-lt, mod_self, add-mul, mul_assoc, mul_comm, one-mul, zero-mul}
use Rattle.std.proofs.lemmas.Nat.{mul-mod_first, mul-mod_second}

-- sums of what is equal
pub sums : (p a b c d : ℕ) → a % p ≡ c % p → b % p ≡ d % p → (a + b) % p ≡ (c + d) % p
sums p a b c d e f = add-mod a b p ∙ ap (λ u. (u + b % p) % p) e ∙ ap (λ u. (c % p + u) % p) f ∙ sym (add-mod c d p)

-- multiples of what is equal
pub multiples : (p n a b : ℕ) → a % p ≡ b % p → (n * a) % p ≡ (n * b) % p
multiples p n a b e = sym (mul-mod_second n a p) ∙ ap (λ u. (n * u) % p) e ∙ mul-mod_second n b p

-- what is added to both sides may be left out
pub cancel : (p a b c : ℕ) → 0 < p → (a + c) % p ≡ (b + c) % p → a % p ≡ b % p
cancel p a b c large same =
    let t : ℕ = p - c % p in
    let small : c % p < p = mod-lt c large in
    let whole : c % p + t ≡ p = omega arith in
    let gone : (c + t) % p ≡ 0 = sym (mod-add-mod c p t) ∙ ap (λ u. u % p) whole ∙ mod_self p in
    let without : (n : ℕ) → ((n + c) % p + t) % p ≡ n % p = λ n. mod-add-mod (n + c) p t ∙ ap (λ u. u % p) (add_assoc n c t) ∙ sym (add-mod-mod n (c + t) p) ∙ ap (λ u. (n + u) % p) gone ∙ ap (λ u. u % p) (add-zero n) in
    sym (without a) ∙ ap (λ u. (u + t) % p) same ∙ without b

-- the sum of a residue and its opposite
pub opposites : (p a : ℕ) → a < p → (((p - a) % p) + a) % p ≡ 0
opposites p a h =
    mod-add-mod (p - a) p a ∙ ap (λ u. u % p) (let e : p - a + a ≡ p = omega arith in e) ∙ mod_self p

-- the calls of the arithmetic, as sums and products of whole numbers
pub with_multiple : (p a f b : ℕ) → (a + (f * b) % p) % p ≡ (a + f * b) % p
with_multiple p a f b = add-mod-mod a (f * b) p

pub with_multiple_of_residues : (p a f b : ℕ) → (a % p + (f * (b % p)) % p) % p ≡ (a + f * b) % p
with_multiple_of_residues p a f b =
    add-mod-mod (a % p) (f * (b % p)) p ∙ mod-add-mod a p (f * (b % p)) ∙ sums p a (f * (b % p)) a (f * b) refl (mul-mod_second f b p)

-- an inverse undoes a product
pub undone : (p g u v : ℕ) → (g * u) % p ≡ 1 % p → (u * v * g) % p ≡ v % p
undone p g u v one =
    let turned : u * v * g ≡ v * (g * u) = mul_assoc u v g ∙ mul_comm u (v * g) ∙ mul_assoc v g u in
    ap (λ n. n % p) turned ∙ multiples p v (g * u) 1 one ∙ ap (λ n. n % p) (mul_comm v 1 ∙ one-mul v)

-- a multiple that is taken away, and added again
pub subtracted : (p a v u d : ℕ) → a < p → ((u + (((p - a) % p) * v) % p) % p + (d + a * v)) % p ≡ (u + d) % p
subtracted p a v u d h =
    let f : ℕ = (p - a) % p in
    let gone : (f * v + a * v) % p ≡ 0 % p =
    ap (λ n. n % p) (sym (add-mul f a v)) ∙ sym (mul-mod_first (f + a) v p) ∙ ap (λ n. (n * v) % p) (opposites p a h) ∙ ap (λ n. n % p) (zero-mul v) in
    let first : (u + (f * v) % p + (d + a * v)) % p ≡ ((f * v) % p + (u + d + a * v)) % p = ap (λ n. n % p) (omega arith) in
    let second : (f * v + (u + d + a * v)) % p ≡ (u + d + (f * v + a * v)) % p = ap (λ n. n % p) (omega arith) in
    mod-add-mod (u + (f * v) % p) p (d + a * v) ∙ first ∙ mod-add-mod (f * v) p (u + d + a * v) ∙ second
    ∙ sums p (u + d) (f * v + a * v) (u + d) 0 refl gone ∙ ap (λ n. n % p) (add-zero (u + d))
