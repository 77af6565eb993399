-- The first row that isn't above settles the answer.
use Rattle.std.proofs.Common.{sym, subst, arith}
use Rattle.reduction_core.specs.Checks.{StandsBelow, StandsAt}
use Rattle.sector_forward.specs.Steps.{HasPivot}
use Rattle.reduction_core.proofs.CheckLemmas.{untrue, never, always, stands_more, stands_fail}
use Rattle.reduction_core.proofs.checks.stands_below_rest.Goals as goal

pub stands_below-requires-clause-row_pivot : goal.stands_below-requires-clause-row_pivot
stands_below-requires-clause-row_pivot c = subst (HasPivot c.args.order) (sym c.index-table-place.is) (c.requires.pivots c.args.place c.index-table-place.result c.requires.place)

pub stands_below-requires-clause-other_pivot : goal.stands_below-requires-clause-other_pivot
stands_below-requires-clause-other_pivot c = subst (HasPivot c.args.order) (sym c.index-table-k.is) (c.requires.pivots c.loop-k.k c.index-table-k.result c.loop-k-test.true)

pub returns-then-not-stands_below : goal.returns-then-not-stands_below
returns-then-not-stands_below c =
    never (StandsAt c.args.order c.args.table.now c.args.place)
    (stands_fail c.args.order c.args.table.now c.args.place c.loop-k.k c.index-table-place.result c.index-table-k.result c.requires.place c.loop-k-test.true (omega arith) c.index-table-place.is c.index-table-k.is
    (untrue c.stands_below.result (StandsBelow c.args.order c.index-table-place.result c.index-table-k.result) c.if-not-stands_below.true c.stands_below.ensures))

pub loop-k-preserved : goal.loop-k-preserved
loop-k-preserved c =
    stands_more c.args.order c.args.table.now c.args.place c.loop-k.k c.index-table-place.result c.index-table-k.result c.requires.place c.loop-k-test.true c.index-table-place.is c.index-table-k.is c.loop-k.invariant
    (c.stands_below.ensures.0 c.if-not-stands_below.false)

pub returns : goal.returns
returns c = always (StandsAt c.args.order c.args.table.now c.args.place) (λ k d l h. c.loop-k.invariant k d l (omega (arith, c.loop-k-test.false)))
