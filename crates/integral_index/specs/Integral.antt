-- An integral of a family, and the numbers that are read from its indices: sector, t, r, s and dots.
-- Source: Kira, arXiv:1705.05610.
use Rattle.std.specs.Prelude.{ℕ, ◌+◌, ◌-◌, ◌*◌, ◌≤◌, ℤ, pos, negsuc, Bool, if◌then◌else◌, List, [], ◌∷◌, length, All, nat_lt, suc, sum_by, count_by, refl}
use Rattle.std.specs.Coded.{Coded, code_by, coded×, coded_ℕ, coded_ℤ, coded_list}

-- the loop integral over the product of the denominators D_j to the power -a_j, of the family with this place in the job
pub record Integral : Type 0 where
  pub family : ℕ
  pub indices : List ℤ

-- an integral is stored as the pair of its fields
abbrev pub integral_code : Coded Integral
integral_code =
    code_by (ℕ × List ℤ) (coded× coded_ℕ (coded_list coded_ℤ)) (λ x. (x.family, x.indices)) (λ p. record { family = p.0; indices = p.1 }) (λ _. refl)

-- an index where it is positive, and else 0
abbrev pub positive_part : ℤ → ℕ
positive_part (pos n) = n
positive_part (negsuc n) = 0

-- minus an index where it is negative, and else 0
abbrev pub negative_part : ℤ → ℕ
negative_part (pos n) = 0
negative_part (negsuc n) = suc n

-- an index that an integral may have: from -101 to 101
abbrev pub IsIndex : ℤ → Type 0
IsIndex a = (positive_part a ≤ 101) × (negative_part a ≤ 101)

-- a list of indices that an integral may have: 1 to 20 of them
pub record IsIndexList (indices : List ℤ) : Type 0 where
  pub some : 1 ≤ length indices
  pub at_most_twenty : length indices ≤ 20
  pub each : All IsIndex indices

abbrev pub is_positive : ℤ → Bool
is_positive a = nat_lt 0 (positive_part a)

-- the sum of 2 ^ (j - 1) over the places j, from 1, of the positive indices
abbrev pub sector_of : List ℤ → ℕ
sector_of [] = 0
sector_of (a ∷ rest) = (if is_positive a then 1 else 0) + 2 * sector_of rest

-- t: how many indices are positive
abbrev pub t_of : List ℤ → ℕ
t_of indices = count_by is_positive indices

-- r: the sum of the positive indices
abbrev pub r_of : List ℤ → ℕ
r_of indices = sum_by positive_part indices

-- s: minus the sum of the negative indices
abbrev pub s_of : List ℤ → ℕ
s_of indices = sum_by negative_part indices

-- how far r is above t
abbrev pub dots_of : List ℤ → ℕ
dots_of indices = r_of indices - t_of indices
