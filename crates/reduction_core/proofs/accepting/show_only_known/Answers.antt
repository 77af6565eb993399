-- The first row that shows something new settles the answer.
use Rattle.std.proofs.Common.{◌++◌}
use Rattle.sector_machine.specs.Machine.{back_rows}
use Rattle.reduction_core.specs.Slots.{state_of}
use Rattle.sector_machine.specs.Accepted.{ShowNothingNew}
use Rattle.reduction_core.specs.Acceptance.{ShowsOnly}
use Rattle.reduction_core.proofs.CheckLemmas.{untrue, never, always, not_all, all_of_front, all_of_front_more}
use Rattle.reduction_core.proofs.RowTests.{each_of, all_from_members}
use Rattle.reduction_core.proofs.accepting.show_only_known.Goals as goal

pub returns-then-not-shows_only_known : goal.returns-then-not-shows_only_known
returns-then-not-shows_only_known c =
    never (ShowNothingNew (c.args.forward.now ++ back_rows (state_of c.args.slots.now)) c.args.rows.now)
    (λ old.
    not_all (ShowsOnly (c.args.forward.now ++ back_rows (state_of c.args.slots.now))) c.args.rows.now c.loop-row.row-index c.row-item.result c.loop-row-test.true c.row-item.is
    (untrue c.shows_only_known.result (ShowsOnly (c.args.forward.now ++ back_rows (state_of c.args.slots.now)) c.row-item.result) c.if-not-shows_only_known.true c.shows_only_known.ensures)
    (all_from_members (ShowsOnly (c.args.forward.now ++ back_rows (state_of c.args.slots.now))) c.args.rows.now (λ row has x shows. old row x has shows)))

pub loop-row-preserved : goal.loop-row-preserved
loop-row-preserved c =
    all_of_front_more (ShowsOnly (c.args.forward.now ++ back_rows (state_of c.args.slots.now))) c.args.rows.now c.loop-row.row-index c.row-item.result c.loop-row-test.true c.row-item.is c.loop-row.invariant (c.shows_only_known.ensures.0 c.if-not-shows_only_known.false)

pub returns : goal.returns
returns c =
    let all = all_of_front (ShowsOnly (c.args.forward.now ++ back_rows (state_of c.args.slots.now))) c.args.rows.now c.loop-row.row-index c.loop-row-test.false c.loop-row.auto.row-index-end c.loop-row.invariant in
    always (ShowNothingNew (c.args.forward.now ++ back_rows (state_of c.args.slots.now)) c.args.rows.now) (λ row x has shows. each_of (ShowsOnly (c.args.forward.now ++ back_rows (state_of c.args.slots.now))) c.args.rows.now row all has x shows)
