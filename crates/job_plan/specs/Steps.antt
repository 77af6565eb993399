-- What the steps of gathering integrals promise each other. No public call cites this file.
use Rattle.std.specs.Prelude.{◌≡◌, ℕ, List, Result, Ok, Err}
use Rattle.std.specs.declared.vec.Vec.{Vec}
use Rattle.integral_index.specs.Integral.{Integral}
use Rattle.integral_index.specs.ZeroSectors.{is_zero_sector}
use Rattle.seed_sets.specs.declared.Shape.{Shape}
use Rattle.seed_sets.specs.declared.faults.SeedFault.{SeedFault}
use Rattle.seed_sets.specs.declared.faults.SeedFault.TheVariants as seed_fault
use Rattle.family_schema.specs.declared.content.Family.{Family}
use Rattle.job_point.specs.declared.faults.Excess.{Excess}
use Rattle.job_point.specs.declared.faults.PlanError.{PlanError}
use Rattle.job_point.specs.declared.faults.PlanError.TheVariants.{TooMany, OutOfMemory}

-- the shape has the width of the family, and the same sectors are zero
pub record IsShapeFor (family : Family) (shape : Shape) : Type 0 where
  pub width : shape.width ≡ family.width
  pub zeros : (sector : ℕ) → is_zero_sector shape.zeros sector ≡ is_zero_sector family.zero_sectors sector

-- what it is here that integrals were not listed
abbrev pub excess : Excess → SeedFault → PlanError
excess what (seed_fault.TooMany count) = TooMany what count
excess what seed_fault.OutOfMemory = OutOfMemory

-- what was listed, or why it wasn't
abbrev pub told : {Z : Type 0} → Excess → Result (Vec Integral Z) SeedFault → Result (List Integral) PlanError
told what (Ok found) = Ok found.items
told what (Err fault) = Err (excess what fault)
