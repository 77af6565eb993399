-- How a plan is kept: its parts, as many of each kind as there are families, and its integrals.
use Rattle.job_plan.specs.declared.plans.Plan.TheInside.{Inside}
use Rattle.job_plan.specs.Plans.{Plan, IsWhole}

abbrev pub shown : Inside → Plan
shown a = record { modulus = a.modulus; order = a.order; dimension = a.dimension; names = a.names.items; zeros = a.zeros; bases = a.bases; symmetries = a.symmetries; seeds = a.seeds; selection = a.selection }

abbrev pub IsKept : Inside → Type 0
IsKept a = IsWhole (shown a)
