-- The equations of integration by parts: the integral over a total derivative vanishes.
-- Source: Kira, arXiv:1705.05610, and Laporta, hep-ph/0102033. Denominators, momenta and indices are numbered from 1.
use Rattle.std.specs.Prelude.{◌≡◌, ℕ, suc, ◌+◌, ◌%◌, ◌≤◌, ◌==◌, if◌then◌else◌, ℤ, pos, negsuc, List, length, slice_index_or}
use Rattle.field_word.specs.Residues.{opposite_of, product_of}
use Rattle.integral_index.specs.Integral.{Integral, sector_of}
use Rattle.integral_index.specs.ZeroSectors.{is_zero_sector}
use Rattle.integral_index.specs.declared.Order.{Order}
use Rattle.propagators.specs.Basis.{Basis, IsDerivative}
use Rattle.propagators.specs.Sums.{sum_to}
use Rattle.sparse_row.specs.declared.Term.{Term}
use Rattle.sparse_row.specs.Row.{Row, IsRow, coefficient}
use Rattle.sparse_row.specs.Terms.{coefficient_at}
use Rattle.ibp_generator.specs.Shifts.{index_at, lowered, raised}

-- minus an index, as a residue modulo p
abbrev pub minus : ℕ → ℤ → ℕ
minus p (pos n) = opposite_of p (n % p)
minus p (negsuc n) = suc n % p

-- c_k of a list c_0, c_1, ..
abbrev pub residue_at : List ℕ → ℕ → ℕ
residue_at c k = slice_index_or c k 0

-- c times the integral of these indices, of the seed's family
abbrev pub term_of : Integral → List ℤ → ℕ → Term
term_of seed indices c = record { integral = record { family = seed.family; indices = indices }; coefficient = c }

-- the sum of the coefficients that x has in the terms of the denominator j:
-- -a_j·c_0 for I(a + e_j), and -a_j·c_k for I(a + e_j - e_k), over all k
abbrev pub denominator_sum : ℕ → Integral → ℕ → List ℕ → ℕ → Integral → ℕ
denominator_sum p seed width c j x =
    let a = seed.indices in
    coefficient_at x (term_of seed (raised a j) (product_of p (minus p (index_at a j)) (residue_at c 0)))
    + sum_to width (λ k. coefficient_at x (term_of seed (lowered (raised a j) k) (product_of p (minus p (index_at a j)) (residue_at c k))))

-- the sum of the coefficients that x has in all terms: d·[q = i] for I(a), and those of each denominator.
-- `c j` are the residues of the denominator j
abbrev pub equation_sum : ℕ → Integral → ℕ → ℕ → ℕ → ℕ → (ℕ → List ℕ) → Integral → ℕ
equation_sum p seed width d i q c x =
    coefficient_at x (term_of seed seed.indices (if q == i then d else 0)) + sum_to width (λ j. denominator_sum p seed width (c j) j x)

-- the number where the sector of x isn't zero, and else 0
abbrev pub unless_zero : List ℕ → Integral → ℕ → ℕ
unless_zero zeros x n = if is_zero_sector zeros (sector_of x.indices) then 0 else n

-- for each of the first n denominators the one list c_0 .. c_N with c_0 + Σ_k c_k·D_k equal, as a form, to
-- its derivative by the loop momentum i, times the momentum q
pub record AreDerived (basis : Basis) (i q n : ℕ) (residues : ℕ → List ℕ) : Type 0 where
  pub is : (j : ℕ) → 1 ≤ j → j ≤ n → IsDerivative basis i q j (residues j)
  pub only : (j : ℕ) (other : List ℕ) → 1 ≤ j → j ≤ n → IsDerivative basis i q j other → other ≡ residues j

-- the row of the equation of a seed, with the derivative by the loop momentum i and the momentum q: at each
-- integral whose sector isn't zero it has the sum of the coefficients of the terms, and it shows nothing else
pub record IsEquation (basis : Basis) (d i q : ℕ) (seed : Integral) (zeros : List ℕ) (order : Order) (row : Row) : Type 0 where
  pub residues : ℕ → List ℕ
  pub derived : AreDerived basis i q (length basis.denominators) residues
  pub is_row : IsRow basis.point.modulus order row
  pub sums : (x : Integral) →
      coefficient row x ≡ unless_zero zeros x (equation_sum basis.point.modulus seed (length basis.denominators) d i q residues x % basis.point.modulus)
