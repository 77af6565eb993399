-- The greatest integral is the one that is asked for, and its coefficient is 1.
use Rattle.std.proofs.Common.{sym, ◌∙◌}
use Rattle.sparse_row.specs.Row.{IsPivot}
use Rattle.reduction_core.proofs.CheckLemmas.{pivot_asked, pivot_other, never}
use Rattle.reduction_core.proofs.checks.is_pivot.Goals as goal

pub returns-then-eq : goal.returns-then-eq
returns-then-eq c =
    pivot_asked c.args.order c.args.row.now.order c.args.row.now c.in-Some.greatest.now c.args.x.now c.compare.result c.coefficient.result c.requires c.in-Some.ensures c.compare.ensures (sym c.eq.ensures ∙ c.if-eq.true) c.coefficient.ensures

pub returns-else-eq : goal.returns-else-eq
returns-else-eq c =
    rw c.if-eq.false
    (never (IsPivot c.args.order c.args.row.now c.args.x.now)
    (pivot_other c.args.order c.args.row.now.order c.args.row.now c.in-Some.greatest.now c.args.x.now c.compare.result c.requires c.in-Some.ensures c.compare.ensures (sym c.eq.ensures ∙ c.if-eq.false)))
