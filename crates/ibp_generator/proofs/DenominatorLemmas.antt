-- The terms of one denominator.
use Rattle.std.proofs.Common.{◌≡◌, ℕ, ◌+◌, ◌∙◌, length, refl, sym, ap, subst, arith, List, ℤ, pos}
use Rattle.integral_index.specs.Integral.{Integral}
use Rattle.field_word.specs.Residues.{product_of}
use Rattle.sparse_row.specs.Terms.{coefficient_at}
use Rattle.propagators.specs.Sums.{sum_to}
use Rattle.ibp_generator.specs.Shifts.{index_at, lowered, raised}
use Rattle.ibp_generator.specs.Equation.{denominator_sum, minus, residue_at, term_of}
use Rattle.ibp_generator.proofs.ShiftLemmas.{length-shifted}

-- the raised term and the sum of the lowered ones, as the program names them
pub denominator_sum-is : (p : ℕ) (seed up : Integral) (multiplier first : ℕ) (residues : List ℕ) (place : ℕ) →
    up ≡ record { family = seed.family; indices = raised seed.indices (place + 1) } → multiplier ≡ minus p (index_at seed.indices (place + 1)) → first ≡ product_of p multiplier (residue_at residues 0) → (x : Integral) →
    coefficient_at x (record { integral = up; coefficient = first }) + sum_to (length up.indices) (λ k. coefficient_at x (term_of up (lowered up.indices k) (product_of p multiplier (residue_at residues k))))
    ≡ denominator_sum p seed (length seed.indices) residues (place + 1) x
denominator_sum-is p seed up multiplier first residues place is same times x =
    let all : first ≡ product_of p (minus p (index_at seed.indices (place + 1))) (residue_at residues 0) = times ∙ ap (λ m. product_of p m (residue_at residues 0)) same in
    (λ i. coefficient_at x (record { integral = is i; coefficient = all i }) + sum_to (length (is i).indices) (λ k. coefficient_at x (term_of (is i) (lowered (is i).indices k) (product_of p (same i) (residue_at residues k)))))
    ∙ ap (λ n. coefficient_at x (term_of seed (raised seed.indices (place + 1)) (product_of p (minus p (index_at seed.indices (place + 1))) (residue_at residues 0)))
    + sum_to n (λ k. coefficient_at x (term_of seed (lowered (raised seed.indices (place + 1)) k) (product_of p (minus p (index_at seed.indices (place + 1))) (residue_at residues k)))))
    (length-shifted seed.indices place (pos 1))
