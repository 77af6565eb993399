-- The greatest integrals of both rows are their pivots.
use Rattle.std.proofs.Common.{sym, ◌∙◌}
use Rattle.reduction_core.specs.Checks.{StandsBelow}
use Rattle.sector_forward.proofs.StepLemmas.{less_of_index}
use Rattle.reduction_core.proofs.CheckLemmas.{stands_tested, stands_not, never, not_less_of_index}
use Rattle.reduction_core.proofs.checks.stands_below.Goals as goal

pub returns-then-eq : goal.returns-then-eq
returns-then-eq c =
    stands_tested c.args.order c.args.row.now.order c.args.other.now.order c.args.row.now c.args.other.now c.in-Some-Some.x.now c.in-Some-Some.y.now c.coefficient.result c.requires.row c.requires.other c.in-Some-Some.ensures c.in-Some-Some.ensures' c.requires.row_pivot
    (sym c.compare.ensures ∙ less_of_index c.compare.result (sym c.eq.ensures ∙ c.if-eq.true)) c.coefficient.ensures

pub returns-else-eq : goal.returns-else-eq
returns-else-eq c =
    rw c.if-eq.false
    (never (StandsBelow c.args.order c.args.row.now c.args.other.now)
    (stands_not c.args.order c.args.row.now.order c.args.other.now.order c.args.row.now c.args.other.now c.in-Some-Some.x.now c.in-Some-Some.y.now c.requires.row c.requires.other c.in-Some-Some.ensures c.in-Some-Some.ensures'
    (λ less. not_less_of_index c.compare.result (sym c.eq.ensures ∙ c.if-eq.false) (c.compare.ensures ∙ less))))
