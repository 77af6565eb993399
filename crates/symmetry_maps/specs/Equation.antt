-- The equations of symmetries: an integral equals the one that a symmetry makes of it.
-- Source: Kira, arXiv:1705.05610. Denominators and indices are numbered from 1.
use Rattle.std.specs.Prelude.{◌≡◌, ℕ, ◌-◌, ◌%◌, ◌≤◌, true, false, ℤ, List, [], ◌∷◌, length}
use Rattle.std.specs.List.{slice_get}
use Rattle.field_word.specs.Residues.{opposite_of}
use Rattle.integral_index.specs.Integral.{Integral, sector_of}
use Rattle.integral_index.specs.ZeroSectors.{is_zero_sector}
use Rattle.integral_index.specs.declared.Order.{Order}
use Rattle.propagators.specs.Sums.{entry}
use Rattle.sparse_row.specs.declared.Term.{Term}
use Rattle.sparse_row.specs.Row.{Row, IsRow, coefficient}
use Rattle.sparse_row.specs.Terms.{total_at}
use Rattle.symmetry_maps.specs.Permutation.{IsPermutationOf}

-- the indices σa, which have a_j at the place σ(j)
pub record IsMoved (places : List ℕ) (indices moved : List ℤ) : Type 0 where
  pub size : length moved ≡ length indices
  pub at_place : (j : ℕ) → 1 ≤ j → j ≤ length indices → slice_get moved (entry places j - 1) ≡ slice_get indices (j - 1)

-- I(a) - I(σa): the two terms of a seed and of its moved indices
abbrev pub terms_of : ℕ → Integral → List ℤ → List Term
terms_of p seed moved =
    record { integral = seed; coefficient = 1 }
    ∷ record { integral = record { family = seed.family; indices = moved }; coefficient = opposite_of p 1 } ∷ []

-- the row of the equation of a seed and a symmetry σ: at each integral whose sector isn't zero it has the
-- sum of the coefficients of the two terms modulo p, and it shows nothing else
pub record IsSymmetryEquation (p : ℕ) (places : List ℕ) (seed : Integral) (zeros : List ℕ) (order : Order) (row : Row) : Type 0 where
  pub permutation : IsPermutationOf (length seed.indices) places
  pub moved : List ℤ
  pub is_moved : IsMoved places seed.indices moved
  pub is_row : IsRow p order row
  pub sums : (x : Integral) → is_zero_sector zeros (sector_of x.indices) ≡ false → coefficient row x ≡ total_at x (terms_of p seed moved) % p
  pub left_out : (x : Integral) → is_zero_sector zeros (sector_of x.indices) ≡ true → coefficient row x ≡ 0
