-- The first that may go is the least.
use Rattle.reduction_core.proofs.CheckLemmas.{untrue}
use Rattle.reduction_core.specs.Ready.{GoesBack}
use Rattle.reduction_core.proofs.ReadyLemmas.{none_before_more, no_back, is_back_turn}
use Rattle.reduction_core.proofs.readiness.back_turn.Goals as goal

pub returns-then-goes_back : goal.returns-then-goes_back
returns-then-goes_back c =
    (c.loop-place-test.true, λ d. is_back_turn c.args.order c.args.slots.now c.args.busy.now c.loop-place.place d c.requires c.loop-place-test.true c.loop-place.invariant ((c.goes_back.ensures d).0 c.if-goes_back.true))

pub loop-place-preserved : goal.loop-place-preserved
loop-place-preserved c =
    none_before_more c.args.slots.now c.args.busy.now c.loop-place.place c.loop-place.invariant
    (λ d. untrue c.goes_back.result (GoesBack c.args.slots.now c.args.busy.now c.loop-place.place d) c.if-goes_back.false (c.goes_back.ensures d))

pub returns : goal.returns
returns c = no_back c.args.order c.args.slots.now c.args.busy.now c.loop-place.place c.requires c.loop-place-test.false c.loop-place.invariant
