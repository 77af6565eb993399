-- Residues modulo p. The project's own form of what every book on arithmetic has: a residue is a whole
-- number below p, and sums, products and opposites are those of whole numbers, taken modulo p.
use Rattle.std.specs.Prelude.{◌≡◌, ℕ, ◌+◌, ◌-◌, ◌*◌, ◌%◌, ◌^◌, ◌<◌, ◌≤◌}

-- The numbers that serve as p: odd, from 3 on, below 2^63. They need not be prime.
pub record IsModulus (p : ℕ) : Type 0 where
  pub odd : p % 2 ≡ 1
  pub from_3 : 3 ≤ p
  pub below : p < 2 ^ 63

abbrev pub sum_of : ℕ → ℕ → ℕ → ℕ
sum_of p x y = (x + y) % p

abbrev pub product_of : ℕ → ℕ → ℕ → ℕ
product_of p x y = (x * y) % p

-- of a residue: the one whose sum with it is 0
abbrev pub opposite_of : ℕ → ℕ → ℕ
opposite_of p x = (p - x) % p

-- the sum with the opposite
abbrev pub difference_of : ℕ → ℕ → ℕ → ℕ
difference_of p x y = (x + (p - y)) % p

-- y is a residue, and its product with x is 1
pub record IsInverse (p x y : ℕ) : Type 0 where
  pub below : y < p
  pub one : product_of p x y ≡ 1
