use Rattle.std.proofs.Common.{◌≡◌, map, take}
use Rattle.job_plan.specs.Shapes.{equation_shape_of}
use Rattle.job_plan.proofs.terms.shapes_of.Given as goal

abbrev pub invariant-loop-family : goal.invariant-loop-family
invariant-loop-family l = l.shapes.items ≡ map (equation_shape_of l.kinematics) (take l.family-index l.families)
