-- The first row that shows something new settles the answer.
use Rattle.sector_machine.specs.Accepted.{ShowNothingNew}
use Rattle.reduction_core.specs.Acceptance.{ShowsOnly}
use Rattle.reduction_core.proofs.CheckLemmas.{untrue, never, always, not_all, all_of_front, all_of_front_more}
use Rattle.reduction_core.proofs.RowTests.{each_of, all_from_members}
use Rattle.reduction_core.proofs.acceptance.show_nothing_new.Goals as goal

pub returns-then-not-shows_only_of : goal.returns-then-not-shows_only_of
returns-then-not-shows_only_of c =
    never (ShowNothingNew c.args.others.now c.args.rows.now)
    (λ old.
    not_all (ShowsOnly c.args.others.now) c.args.rows.now c.loop-row.row-index c.row-item.result c.loop-row-test.true c.row-item.is
    (untrue c.shows_only_of.result (ShowsOnly c.args.others.now c.row-item.result) c.if-not-shows_only_of.true c.shows_only_of.ensures)
    (all_from_members (ShowsOnly c.args.others.now) c.args.rows.now (λ row has x shows. old row x has shows)))

pub loop-row-preserved : goal.loop-row-preserved
loop-row-preserved c =
    all_of_front_more (ShowsOnly c.args.others.now) c.args.rows.now c.loop-row.row-index c.row-item.result c.loop-row-test.true c.row-item.is c.loop-row.invariant (c.shows_only_of.ensures.0 c.if-not-shows_only_of.false)

pub returns : goal.returns
returns c =
    let all = all_of_front (ShowsOnly c.args.others.now) c.args.rows.now c.loop-row.row-index c.loop-row-test.false c.loop-row.auto.row-index-end c.loop-row.invariant in
    always (ShowNothingNew c.args.others.now c.args.rows.now) (λ row x has shows. each_of (ShowsOnly c.args.others.now) c.args.rows.now row all has x shows)
