use Rattle.std.proofs.Common.{arith}
use Rattle.job_plan.specs.Plans.{AreZerosOf}
use Rattle.job_plan.proofs.PlanLemmas.{AllZip-more, AllZip-whole}
use Rattle.job_plan.proofs.planner.zeros_of.Goals as goal

pub loop-family-preserved : goal.loop-family-preserved
loop-family-preserved c = rw c.in_ok-push.ensures.ok
    (AllZip-more AreZerosOf c.args.families.now c.loop-family.zeros c.loop-family.family-index c.family-item.result c.in_ok-next.next (omega arith) c.family-item.is c.loop-family.invariant
    (record { ascending = c.in_ok-next.ensures.ascending; same = rw c.as_slice.ensures at c.in_ok-next.ensures.members }))

pub returns : goal.returns
returns c = AllZip-whole AreZerosOf c.args.families.now c.loop-family.zeros c.loop-family.family-index (omega arith) c.loop-family.invariant
