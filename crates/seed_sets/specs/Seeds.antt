-- The seeds of a job: the integrals for which equations are written.
-- Source: Kira, arXiv:1705.05610: the seeds of a sector and its subsectors up to given r, s and dots.
use Rattle.std.specs.Prelude.{◌≡◌, ◌↔◌, ℕ, ◌+◌, ◌<◌, ◌≤◌, ◌^◌, true, false, List, length, slice_index_or, AllPairs, Contains, IfSome}
use Rattle.std.specs.declared.cmp.Ordering.TheVariants.{Less}
use Rattle.integral_index.specs.declared.Order.{Order}
use Rattle.integral_index.specs.Integral.{Integral, sector_of, r_of, s_of, dots_of}
use Rattle.integral_index.specs.Order.{compare}
use Rattle.integral_index.specs.ZeroSectors.{is_subsector, is_zero_sector}
use Rattle.seed_sets.specs.declared.Spec.{Spec}
use Rattle.seed_sets.specs.declared.Shape.{Shape}
use Rattle.seed_sets.specs.declared.faults.SeedFault.{SeedFault}
use Rattle.seed_sets.specs.declared.faults.SeedFault.TheVariants.{TooMany, OutOfMemory}

-- x is a seed of the spec, whose family has this shape
pub record IsSeed (spec : Spec) (shape : Shape) (x : Integral) : Type 0 where
  pub family : x.family ≡ spec.family
  pub width : length x.indices ≡ shape.width
  pub subsector : is_subsector (sector_of x.indices) spec.sector ≡ true
  pub not_zero : is_zero_sector shape.zeros (sector_of x.indices) ≡ false
  pub r : r_of x.indices ≤ spec.r
  pub s : s_of x.indices ≤ spec.s
  pub dots : IfSome spec.d (λ d. dots_of x.indices ≤ d)

-- the shape of the family at this place of the job
abbrev pub IsShapeOf : List Shape → ℕ → Shape → Type 0
IsShapeOf shapes family shape = (family < length shapes) × (slice_index_or shapes family shape ≡ shape)

-- x is a seed of one of the specs
pub record IsSeedOfSome (specs : List Spec) (shapes : List Shape) (x : Integral) : Type 0 where
  pub spec : Spec
  pub shape : Shape
  pub listed : Contains specs spec
  pub shaped : IsShapeOf shapes spec.family shape
  pub seed : IsSeed spec shape x

-- each is less than all that come later, so each comes once
abbrev pub Ascends : Order → List Integral → Type 0
Ascends order = AllPairs (λ x y. compare order x y ≡ Less)

-- there are more than `most` different integrals of a kind
pub record AreMore (order : Order) (most : ℕ) (Kind : Integral → Type 0) : Type 0 where
  pub some : List Integral
  pub ascends : Ascends order some
  pub more : most < length some
  pub each : (x : Integral) → Contains some x → Kind x

-- why integrals of a kind are not listed: there are too many, or memory was refused
abbrev pub IsCause : Order → ℕ → (Integral → Type 0) → SeedFault → Type 0
IsCause order most Kind (TooMany count) = (count ≡ most + 1) × AreMore order most Kind
IsCause order most Kind OutOfMemory = Unit {0}

-- what a family may have: 1 to 20 indices
pub record IsWide (shape : Shape) : Type 0 where
  pub some : 1 ≤ shape.width
  pub at_most_twenty : shape.width ≤ 20

-- a spec that a job may have
pub record IsFitting (shapes : List Shape) (spec : Spec) : Type 0 where
  pub family : spec.family < length shapes
  pub sector : (shape : Shape) → IsShapeOf shapes spec.family shape → spec.sector < 2 ^ shape.width
  pub r : spec.r ≤ 100
  pub s : spec.s ≤ 100
  pub d : IfSome spec.d (λ d. d ≤ 100)

-- lists that ascend are the same where they have the same members
abbrev pub OneListAscends : Order → Type 0
OneListAscends order =
    (xs ys : List Integral) → Ascends order xs → Ascends order ys → ((x : Integral) → Contains xs x ↔ Contains ys x) → xs ≡ ys

-- a list that ascends is no longer than another that has all of its members
abbrev pub NoListIsLonger : Order → Type 0
NoListIsLonger order =
    (xs ys : List Integral) → Ascends order xs → Ascends order ys → ((x : Integral) → Contains xs x → Contains ys x) → length xs ≤ length ys
