-- Products of two coefficients.
use Rattle.std.proofs.Common.{ℕ, ℤ, pos, negsuc, ◌≡◌, ◌≤◌, ◌*◌, ◌*ℤ◌, ◌≤ℤ◌, to_z, of_z, arith}
use mir.Syntax.{w16}
use Rattle.std.specs.Int.RustNames.{unsigned_abs}
use Rattle.std.proofs.Math.Nat.{mul-le-mul}
use Rattle.std.proofs.lemmas.Int.{ints, unsigned_abs-mul}
use Rattle.momentum_sums.specs.Momenta.{IsCoefficient}

size_of_coefficient : (a : ℤ) → IsCoefficient a → unsigned_abs a ≤ 1000
size_of_coefficient (pos n) h = let high = h.1 in omega (arith, ints)
size_of_coefficient (negsuc n) h = let low = h.0 in omega (arith, ints)

bounds : (z : ℤ) → unsigned_abs z ≤ 1000000 → (negsuc 999999 ≤ℤ z) × (z ≤ℤ pos 1000000)
bounds (pos n) h = (omega (arith, ints), omega (arith, ints))
bounds (negsuc n) h = (omega (arith, ints), omega (arith, ints))

size_of_product : (m n : ℕ) → m ≤ 1000 → n ≤ 1000 → m * n ≤ 1000000
size_of_product m n a b = mul-le-mul a b

pub product_small : (a b : ℤ) → IsCoefficient a → IsCoefficient b → (negsuc 999999 ≤ℤ (a *ℤ b)) × ((a *ℤ b) ≤ℤ pos 1000000)
product_small a b ha hb =
    let e = unsigned_abs-mul a b in
    let s = size_of_product (unsigned_abs a) (unsigned_abs b) (size_of_coefficient a ha) (size_of_coefficient b hb) in
    bounds (a *ℤ b) (omega arith)

-- a coefficient keeps its value in 16 bits
pub kept : (a : ℤ) → IsCoefficient a → to_z w16 (of_z w16 a) ≡ a
kept a h = let low = h.0 in let high = h.1 in omega (arith, ints)
