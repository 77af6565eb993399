-- What families keep that were read. The project's own.
use Rattle.std.specs.Prelude.{◌≡◌, ◌+◌, ◌^◌, ◌<◌, ◌≤◌, ℕ, length, All}
use Rattle.kinematics_schema.specs.declared.content.Kinematics.{Kinematics}
use Rattle.family_schema.specs.declared.content.Momenta.{Momenta}
use Rattle.family_schema.specs.declared.content.Momenta.TheVariants.{Square, Product}
use Rattle.family_schema.specs.declared.content.Symmetry.{Symmetry}
use Rattle.family_schema.specs.declared.content.Family.{Family}
use Rattle.family_schema.specs.Scope.{independent_count, width_of}

-- the momenta of a propagator have so many coefficients
abbrev pub HasMomenta : ℕ → Momenta → Type 0
HasMomenta count (Square momentum) = length momentum ≡ count
HasMomenta count (Product left right) = (length left ≡ count) × (length right ≡ count)

-- so many images, each with so many coefficients
pub record HasImages (loops count : ℕ) (symmetry : Symmetry) : Type 0 where
  pub one_for_each : length symmetry.images ≡ loops
  pub images : All (λ image. length image ≡ count) symmetry.images

-- as many propagators as the family is wide, over so many momenta; sectors of this width; an image for each
-- loop momentum
pub record HasParts (count : ℕ) (family : Family) : Type 0 where
  pub size : length family.propagators ≡ family.width
  pub propagators : All (λ propagator. HasMomenta count propagator.momenta) family.propagators
  pub top_sectors : All (λ sector. sector < 2 ^ family.width) family.top_sectors
  pub zero_sectors : All (λ sector. sector < 2 ^ family.width) family.zero_sectors
  pub symmetries : All (HasImages (length family.loops) count) family.symmetries

-- 1 to 6 loop momenta, at most 20 denominators, and all parts over the loop momenta and so many external ones
pub record IsOver (externals : ℕ) (family : Family) : Type 0 where
  pub some_loops : 1 ≤ length family.loops
  pub few_loops : length family.loops ≤ 6
  pub width : family.width ≡ width_of (length family.loops) externals
  pub narrow : family.width ≤ 20
  pub parts : HasParts (length family.loops + externals) family

-- the external momenta are the independent ones
abbrev pub IsSound : Kinematics → Family → Type 0
IsSound kinematics family = IsOver (independent_count kinematics) family
