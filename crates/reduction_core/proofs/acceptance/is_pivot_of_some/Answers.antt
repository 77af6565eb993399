-- The first row with this pivot settles the answer.
use Rattle.sparse_row.specs.Row.{IsPivot}
use Rattle.reduction_core.specs.Acceptance.{IsPivotOfSome}
use Rattle.reduction_core.proofs.CheckLemmas.{untrue, never, always, all_of_front_more}
use Rattle.reduction_core.proofs.RowTests.{some_found, none_found}
use Rattle.reduction_core.proofs.acceptance.is_pivot_of_some.Goals as goal

pub returns-then-is_pivot : goal.returns-then-is_pivot
returns-then-is_pivot c =
    always (IsPivotOfSome c.args.order c.args.rows.now c.args.x.now)
    (some_found (λ row. IsPivot c.args.order row c.args.x.now) c.args.rows.now c.loop-row.row-index c.row-item.result c.loop-row-test.true c.row-item.is (c.is_pivot.ensures.0 c.if-is_pivot.true))

pub loop-row-preserved : goal.loop-row-preserved
loop-row-preserved c =
    all_of_front_more (λ row. ¬ (IsPivot c.args.order row c.args.x.now)) c.args.rows.now c.loop-row.row-index c.row-item.result c.loop-row-test.true c.row-item.is c.loop-row.invariant
    (untrue c.is_pivot.result (IsPivot c.args.order c.row-item.result c.args.x.now) c.if-is_pivot.false c.is_pivot.ensures)

pub returns : goal.returns
returns c =
    never (IsPivotOfSome c.args.order c.args.rows.now c.args.x.now)
    (none_found (λ row. IsPivot c.args.order row c.args.x.now) c.args.rows.now c.loop-row.row-index c.loop-row-test.false c.loop-row.auto.row-index-end c.loop-row.invariant)
