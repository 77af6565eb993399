-- A pivot is the greatest integral, where its coefficient is 1.
use Rattle.std.proofs.Common.{◌≡◌}
use Rattle.sparse_row.specs.Row.{coefficient}
use Rattle.reduction_core.proofs.RowTests.{without_pivot, with_pivot, zero_tested}
use Rattle.reduction_core.proofs.acceptance.is_clear_of.Goals as goal

pub returns-then-coefficient-ne1 : goal.returns-then-coefficient-ne1
returns-then-coefficient-ne1 c =
    without_pivot c.args.order c.args.rule.now.order c.args.rule.now c.in-Some.x.now c.requires c.in-Some.ensures (λ x. coefficient c.args.row.now x ≡ 0) c.coefficient.result c.coefficient.ensures c.if-coefficient-ne1.true

pub returns-else-coefficient-ne1 : goal.returns-else-coefficient-ne1
returns-else-coefficient-ne1 c =
    with_pivot c.args.order c.args.rule.now.order c.args.rule.now c.in-Some.x.now c.requires c.in-Some.ensures (λ x. coefficient c.args.row.now x ≡ 0) c.coefficient.result _ c.coefficient.ensures c.if-coefficient-ne1.false
    (zero_tested c.args.row.now c.in-Some.x.now c.coefficient-else-coefficient-ne1.result c.coefficient-else-coefficient-ne1.ensures)
