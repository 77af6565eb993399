-- The first row with no pivot settles the answer.
use Rattle.std.proofs.Common.{All}
use Rattle.sector_forward.specs.Steps.{HasPivot}
use Rattle.reduction_core.proofs.CheckLemmas.{untrue, never, always, not_all, all_of_front, all_of_front_more}
use Rattle.reduction_core.proofs.checks.have_pivots.Goals as goal

pub returns-then-not-has_pivot : goal.returns-then-not-has_pivot
returns-then-not-has_pivot c =
    never (All (HasPivot c.args.order) c.args.table.now)
    (not_all (HasPivot c.args.order) c.args.table.now c.loop-row.row-index c.row-item.result c.loop-row-test.true c.row-item.is (untrue c.has_pivot.result (HasPivot c.args.order c.row-item.result) c.if-not-has_pivot.true c.has_pivot.ensures))

pub loop-row-preserved : goal.loop-row-preserved
loop-row-preserved c =
    all_of_front_more (HasPivot c.args.order) c.args.table.now c.loop-row.row-index c.row-item.result c.loop-row-test.true c.row-item.is c.loop-row.invariant (c.has_pivot.ensures.0 c.if-not-has_pivot.false)

pub returns : goal.returns
returns c =
    always (All (HasPivot c.args.order) c.args.table.now)
    (all_of_front (HasPivot c.args.order) c.args.table.now c.loop-row.row-index c.loop-row-test.false c.loop-row.auto.row-index-end c.loop-row.invariant)
