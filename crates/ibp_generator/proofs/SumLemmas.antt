-- Finite sums, and the residues of indices.
use Rattle.std.proofs.Common.{◌≡◌, ℕ, zero, suc, ◌+◌, ◌-◌, ◌*◌, ◌%◌, ◌<◌, ◌≤◌, refl, sym, ap, subst, ◌∙◌, arith, add-one, add-zero, ℤ, pos, negsuc, ◌<ℤ◌, ◌≤ℤ◌}
use Rattle.std.proofs.lemmas.Int.{ints}
use Rattle.std.specs.Int.RustNames.{unsigned_abs}
use Rattle.field_word.specs.Residues.{opposite_of}
use Rattle.propagators.specs.Sums.{sum_to}
use Rattle.ibp_generator.specs.Equation.{minus}

-- one number more
pub sum_to-more : (n : ℕ) (f : ℕ → ℕ) → sum_to (n + 1) f ≡ sum_to n f + f (n + 1)
sum_to-more n f = rw (add-one n) refl

-- sums of the same numbers
pub sum_to-same : (n : ℕ) (f g : ℕ → ℕ) → ((k : ℕ) → 1 ≤ k → k ≤ n → f k ≡ g k) → sum_to n f ≡ sum_to n g
sum_to-same zero f g same = refl
sum_to-same (suc n) f g same =
    let before = sum_to-same n f g (λ k low high. same k low (omega arith)) in
    let here : f (suc n) ≡ g (suc n) = same (suc n) (omega arith) (omega arith) in
    λ i. before i + here i

-- what the program computes is minus the index
pub minus-negative : (p : ℕ) (a : ℤ) (size : ℕ) → a <ℤ pos 0 → size ≡ unsigned_abs a % p → size ≡ minus p a
minus-negative p (pos n) size below e = absurd (omega (arith, ints))
minus-negative p (negsuc n) size below e = e

pub minus-positive : (p : ℕ) (a : ℤ) (size : ℕ) → pos 0 ≤ℤ a → size ≡ unsigned_abs a % p → opposite_of p size ≡ minus p a
minus-positive p (pos n) size above e = ap (opposite_of p) e
minus-positive p (negsuc n) size above e = absurd (omega (arith, ints))
