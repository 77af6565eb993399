-- The first row that shows a pivot of a rule settles the answer.
use Rattle.std.proofs.Common.{All}
use Rattle.back_substitute.specs.Substitution.{ShowsNoPivotOf}
use Rattle.reduction_core.proofs.CheckLemmas.{untrue, never, always, not_all, all_of_front, all_of_front_more}
use Rattle.reduction_core.proofs.acceptance.show_no_pivot_of.Goals as goal

pub returns-then-not-shows_no_pivot_of : goal.returns-then-not-shows_no_pivot_of
returns-then-not-shows_no_pivot_of c =
    never (All (ShowsNoPivotOf c.args.order c.args.rules.now) c.args.rows.now)
    (not_all (ShowsNoPivotOf c.args.order c.args.rules.now) c.args.rows.now c.loop-row.row-index c.row-item.result c.loop-row-test.true c.row-item.is (untrue c.shows_no_pivot_of.result (ShowsNoPivotOf c.args.order c.args.rules.now c.row-item.result) c.if-not-shows_no_pivot_of.true c.shows_no_pivot_of.ensures))

pub loop-row-preserved : goal.loop-row-preserved
loop-row-preserved c =
    all_of_front_more (ShowsNoPivotOf c.args.order c.args.rules.now) c.args.rows.now c.loop-row.row-index c.row-item.result c.loop-row-test.true c.row-item.is c.loop-row.invariant (c.shows_no_pivot_of.ensures.0 c.if-not-shows_no_pivot_of.false)

pub returns : goal.returns
returns c = always (All (ShowsNoPivotOf c.args.order c.args.rules.now) c.args.rows.now) (all_of_front (ShowsNoPivotOf c.args.order c.args.rules.now) c.args.rows.now c.loop-row.row-index c.loop-row-test.false c.loop-row.auto.row-index-end c.loop-row.invariant)
