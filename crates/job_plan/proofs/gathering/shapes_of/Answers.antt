use Rattle.std.proofs.Common.{arith, refl}
use Rattle.job_plan.specs.Steps.{IsShapeFor}
use Rattle.job_plan.proofs.PlanLemmas.{AllZip-more, AllZip-whole}
use Rattle.job_plan.proofs.gathering.shapes_of.Goals as goal

pub loop-family-preserved : goal.loop-family-preserved
loop-family-preserved c =
    rw c.in_ok-push.ensures.items
    (AllZip-more IsShapeFor c.args.families.now c.loop-family.shapes.items c.loop-family.family-index c.family-item.result _ (omega arith) c.family-item.is c.loop-family.invariant
    (record { width = refl; zeros = rw c.as_slice.ensures at c.in_ok-zeros.ensures.same_zeros }))

pub returns : goal.returns
returns c = AllZip-whole IsShapeFor c.args.families.now c.loop-family.shapes.items c.loop-family.family-index (omega arith) c.loop-family.invariant
