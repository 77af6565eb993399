-- The last that may go is the greatest.
use Rattle.std.proofs.Common.{◌≡◌, ◌+◌, ◌-◌, ◌<◌, length, subst, arith}
use Rattle.reduction_core.proofs.CheckLemmas.{untrue}
use Rattle.reduction_core.specs.Ready.{GoesForward}
use Rattle.reduction_core.proofs.ReadyLemmas.{NoneFrom, none_from_more, no_forward, is_forward_turn}
use Rattle.reduction_core.proofs.readiness.forward_turn.Goals as goal

pub returns-then-goes_forward : goal.returns-then-goes_forward
returns-then-goes_forward c =
    let place = c.loop-place.place - 1 in
    let within : place < length c.args.slots.now = omega (arith, c.loop-place.invariant.0, c.loop-place-test.true) in
    let next : c.loop-place.place ≡ place + 1 = omega (arith, c.loop-place-test.true) in
    let above : NoneFrom c.args.order c.args.slots.now c.args.busy.now (place + 1) = subst (NoneFrom c.args.order c.args.slots.now c.args.busy.now) next c.loop-place.invariant.1 in
    (within, λ d. is_forward_turn c.args.order c.args.slots.now c.args.busy.now place d c.requires within above ((c.goes_forward.ensures d).0 c.if-goes_forward.true))

pub loop-place-preserved : goal.loop-place-preserved
loop-place-preserved c =
    let place = c.loop-place.place - 1 in
    let next : c.loop-place.place ≡ place + 1 = omega (arith, c.loop-place-test.true) in
    let above : NoneFrom c.args.order c.args.slots.now c.args.busy.now (place + 1) = subst (NoneFrom c.args.order c.args.slots.now c.args.busy.now) next c.loop-place.invariant.1 in (
      omega (arith, c.loop-place.invariant.0),
      none_from_more c.args.order c.args.slots.now c.args.busy.now place above
          (λ d. untrue c.goes_forward.result (GoesForward c.args.order c.args.slots.now c.args.busy.now place d) c.if-goes_forward.false (c.goes_forward.ensures d)),
    )

pub returns : goal.returns
returns c =
    let zero : c.loop-place.place ≡ 0 = omega (arith, c.loop-place-test.false) in
    no_forward c.args.order c.args.slots.now c.args.busy.now (subst (NoneFrom c.args.order c.args.slots.now c.args.busy.now) zero c.loop-place.invariant.1)
