-- The first pivot of the others that is none of the rows settles the answer.
use Rattle.std.proofs.Common.{◌≡◌, length, arith}
use Rattle.sector_machine.specs.Machine.{HaveThePivots}
use Rattle.reduction_core.specs.Acceptance.{KeepsPivot}
use Rattle.reduction_core.proofs.CheckLemmas.{untrue, never, always, not_all, all_of_front, all_of_front_more}
use Rattle.reduction_core.proofs.RowTests.{each_of, all_from_members}
use Rattle.reduction_core.proofs.acceptance.have_the_pivots.Goals as goal

pub returns-then-not-keeps_pivot : goal.returns-then-not-keeps_pivot
returns-then-not-keeps_pivot c =
    never (HaveThePivots c.args.order c.args.others.now c.args.rows.now)
    (λ have.
    not_all (KeepsPivot c.args.order c.args.rows.now) c.args.others.now c.loop-other.other-index c.other-item.result c.loop-other-test.true c.other-item.is
    (untrue c.keeps_pivot.result (KeepsPivot c.args.order c.args.rows.now c.other-item.result) c.if-not-keeps_pivot.true c.keeps_pivot.ensures)
    (all_from_members (KeepsPivot c.args.order c.args.rows.now) c.args.others.now (λ other has x pivot. have.each other x has pivot)))

pub loop-other-preserved : goal.loop-other-preserved
loop-other-preserved c =
    all_of_front_more (KeepsPivot c.args.order c.args.rows.now) c.args.others.now c.loop-other.other-index c.other-item.result c.loop-other-test.true c.other-item.is c.loop-other.invariant (c.keeps_pivot.ensures.0 c.if-not-keeps_pivot.false)

pub returns : goal.returns
returns c =
    let all = all_of_front (KeepsPivot c.args.order c.args.rows.now) c.args.others.now c.loop-other.other-index c.loop-other-test.false c.loop-other.auto.other-index-end c.loop-other.invariant in
    let len : length c.args.rows.now ≡ length c.args.others.now = omega (arith, c.if-rows-others.false) in
    always (HaveThePivots c.args.order c.args.others.now c.args.rows.now)
    (record { len = len; each = λ other x has pivot. each_of (KeepsPivot c.args.order c.args.rows.now) c.args.others.now other all has x pivot })
