use Rattle.std.proofs.Common.{take}
use Rattle.std.specs.List.{AllZip}
use Rattle.job_plan.specs.Plans.{AreZerosOf}
use Rattle.job_plan.proofs.planner.zeros_of.Given as goal

abbrev pub invariant-loop-family : goal.invariant-loop-family
invariant-loop-family l = AllZip AreZerosOf (take l.family-index l.families) l.zeros
