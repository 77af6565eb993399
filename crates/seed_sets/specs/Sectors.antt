-- The seeds of one spec in one sector.
use Rattle.std.specs.Prelude.{◌≡◌, ℕ, ◌≤◌, Bool, true, ◌&&◌, not, List, length, Option, Some, None, min, IfSome}
use Rattle.integral_index.specs.Integral.{Integral, sector_of, r_of, s_of, dots_of}
use Rattle.integral_index.specs.ZeroSectors.{is_subsector, is_zero_sector}
use Rattle.seed_sets.specs.declared.Shape.{Shape}
use Rattle.seed_sets.specs.declared.Spec.{Spec}

-- whether a spec that names the other sector has seeds of this one
abbrev pub is_wanted : ℕ → ℕ → List ℕ → Bool
is_wanted sector other zeros = is_subsector sector other && not (is_zero_sector zeros sector)

-- x is of this sector, and its family, r, s and dots are within the spec
pub record IsInSector (spec : Spec) (width sector : ℕ) (x : Integral) : Type 0 where
  pub family : x.family ≡ spec.family
  pub width_is : length x.indices ≡ width
  pub sector_is : sector_of x.indices ≡ sector
  pub r : r_of x.indices ≤ spec.r
  pub s : s_of x.indices ≤ spec.s
  pub dots : IfSome spec.d (λ d. dots_of x.indices ≤ d)

-- x is a seed of the spec in this sector
abbrev pub IsOfSector : Spec → Shape → ℕ → Integral → Type 0
IsOfSector spec shape sector x = (is_wanted sector spec.sector shape.zeros ≡ true) × IsInSector spec shape.width sector x

-- the most dots where r may be so far above t
abbrev pub most_dots : Option ℕ → ℕ → ℕ
most_dots (Some d) room = min d room
most_dots None room = room
