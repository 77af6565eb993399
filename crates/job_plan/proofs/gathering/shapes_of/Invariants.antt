use Rattle.std.proofs.Common.{take}
use Rattle.std.specs.List.{AllZip}
use Rattle.job_plan.specs.Steps.{IsShapeFor}
use Rattle.job_plan.proofs.gathering.shapes_of.Given as goal

abbrev pub invariant-loop-family : goal.invariant-loop-family
invariant-loop-family l = AllZip IsShapeFor (take l.family-index l.families) l.shapes.items
