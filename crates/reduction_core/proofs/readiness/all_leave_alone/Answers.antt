-- The first that doesn't pass settles the answer.
use Rattle.std.proofs.Common.{All}
use Rattle.reduction_core.specs.Ready.{LeavesAlone}
use Rattle.reduction_core.proofs.CheckLemmas.{untrue, never, always, not_all, all_of_front, all_of_front_more}
use Rattle.reduction_core.proofs.readiness.all_leave_alone.Goals as goal

pub returns-then-not-leaves_alone : goal.returns-then-not-leaves_alone
returns-then-not-leaves_alone c =
    let P = LeavesAlone c.args.unit in
    never (All P c.args.slots.now) (not_all P c.args.slots.now c.loop-slot.slot-index c.slot-item.result c.loop-slot-test.true c.slot-item.is (untrue c.leaves_alone.result (P c.slot-item.result) c.if-not-leaves_alone.true c.leaves_alone.ensures))

pub loop-slot-preserved : goal.loop-slot-preserved
loop-slot-preserved c =
    all_of_front_more (LeavesAlone c.args.unit) c.args.slots.now c.loop-slot.slot-index c.slot-item.result c.loop-slot-test.true c.slot-item.is c.loop-slot.invariant (c.leaves_alone.ensures.0 c.if-not-leaves_alone.false)

pub returns : goal.returns
returns c =
    always (All (LeavesAlone c.args.unit) c.args.slots.now) (all_of_front (LeavesAlone c.args.unit) c.args.slots.now c.loop-slot.slot-index c.loop-slot-test.false c.loop-slot.auto.slot-index-end c.loop-slot.invariant)
