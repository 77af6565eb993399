-- What may stand behind the first indices of a list.
use Rattle.std.specs.Prelude.{◌≡◌, ℕ, zero, suc, ◌+◌, ◌-◌, ◌/◌, ◌%◌, ◌==◌, ◌≤◌, Bool, true, false, ℤ, pos, negsuc, List, ◌++◌, length}
use Rattle.integral_index.specs.Integral.{Integral, sector_of, t_of, r_of, s_of}
use Rattle.seed_sets.specs.declared.endings.Rest.{Rest}

-- a list of indices that the rest allows
pub record IsEnding (rest : Rest) (ending : List ℤ) : Type 0 where
  pub places : length ending ≡ rest.places
  pub sector : sector_of ending ≡ rest.sector
  pub dots : r_of ending ≤ t_of ending + rest.dots
  pub s : s_of ending ≤ rest.s

-- the integrals of the family whose indices are the first ones and then an ending
pub record Continues (family : ℕ) (first : List ℤ) (rest : Rest) (x : Integral) : Type 0 where
  pub ending : List ℤ
  pub same_family : x.family ≡ family
  pub indices : x.indices ≡ first ++ ending
  pub is_ending : IsEnding rest ending

-- whether the sector has the next place
abbrev pub is_next : Rest → Bool
is_next rest = rest.sector % 2 == 1

-- how many indices the next place may have
abbrev pub choices_by : Bool → Rest → ℕ
choices_by true rest = rest.dots + 1
choices_by false rest = rest.s + 1

abbrev pub choices : Rest → ℕ
choices rest = choices_by (is_next rest) rest

-- a number with the sign turned round
abbrev pub minus : ℕ → ℤ
minus zero = pos 0
minus (suc n) = negsuc n

-- the index of a choice, from 0
abbrev pub index_by : Bool → ℕ → ℤ
index_by true step = pos (suc step)
index_by false step = minus step

abbrev pub index_at : Rest → ℕ → ℤ
index_at rest step = index_by (is_next rest) step

-- what may stand behind a choice
abbrev pub after_by : Bool → Rest → ℕ → Rest
after_by true rest step = record { places = rest.places - 1; sector = rest.sector / 2; dots = rest.dots - step; s = rest.s }
after_by false rest step = record { places = rest.places - 1; sector = rest.sector / 2; dots = rest.dots; s = rest.s - step }

abbrev pub after : Rest → ℕ → Rest
after rest step = after_by (is_next rest) rest step
