-- A pivot is the greatest integral, where its coefficient is 1.
use Rattle.reduction_core.specs.Acceptance.{IsPivotOfSome}
use Rattle.reduction_core.proofs.RowTests.{without_pivot, with_pivot}
use Rattle.reduction_core.proofs.acceptance.keeps_pivot.Goals as goal

pub returns-then-coefficient-ne1 : goal.returns-then-coefficient-ne1
returns-then-coefficient-ne1 c =
    without_pivot c.args.order c.args.other.now.order c.args.other.now c.in-Some.x.now c.requires.other c.in-Some.ensures (IsPivotOfSome c.args.order c.args.rows.now) c.coefficient.result c.coefficient.ensures c.if-coefficient-ne1.true

pub returns-else-coefficient-ne1 : goal.returns-else-coefficient-ne1
returns-else-coefficient-ne1 c =
    with_pivot c.args.order c.args.other.now.order c.args.other.now c.in-Some.x.now c.requires.other c.in-Some.ensures (IsPivotOfSome c.args.order c.args.rows.now) c.coefficient.result c.is_pivot_of_some.result c.coefficient.ensures c.if-coefficient-ne1.false
    c.is_pivot_of_some.ensures
