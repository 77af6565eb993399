-- The first slot whose back rows have a pivot that is shown settles the answer.
use Rattle.std.proofs.Common.{All, sym}
use Rattle.back_substitute.specs.Substitution.{ShowsNoPivotOf}
use Rattle.sector_machine.specs.Machine.{back_rows}
use Rattle.reduction_core.specs.Slots.{state_of}
use Rattle.reduction_core.specs.Accepting.{IsClearAt}
use Rattle.reduction_core.proofs.CheckLemmas.{untrue, never, always, not_all, all_of_front, all_of_front_more}
use Rattle.reduction_core.proofs.AcceptingLemmas.{ordered_at, clear_everywhere, clear_each}
use Rattle.reduction_core.proofs.accepting.are_clear.Goals as goal

pub are_clear_at-requires : goal.are_clear_at-requires
are_clear_at-requires c = ordered_at c.args.slots.now c.requires.ascend c.args.order c.slot-item.result (c.loop-slot.slot-index, c.loop-slot-test.true, sym c.slot-item.is) c.requires.ordered

pub returns-then-not-are_clear_at : goal.returns-then-not-are_clear_at
returns-then-not-are_clear_at c =
    let P = IsClearAt c.args.order c.args.rows.now in
    never (All (ShowsNoPivotOf c.args.order (back_rows (state_of c.args.slots.now))) c.args.rows.now)
    (λ clear.
    not_all P c.args.slots.now c.loop-slot.slot-index c.slot-item.result c.loop-slot-test.true c.slot-item.is (untrue c.are_clear_at.result (P c.slot-item.result) c.if-not-are_clear_at.true c.are_clear_at.ensures)
    (clear_each c.args.slots.now c.requires.ascend c.args.order c.args.rows.now clear))

pub loop-slot-preserved : goal.loop-slot-preserved
loop-slot-preserved c =
    all_of_front_more (IsClearAt c.args.order c.args.rows.now) c.args.slots.now c.loop-slot.slot-index c.slot-item.result c.loop-slot-test.true c.slot-item.is c.loop-slot.invariant (c.are_clear_at.ensures.0 c.if-not-are_clear_at.false)

pub returns : goal.returns
returns c =
    always (All (ShowsNoPivotOf c.args.order (back_rows (state_of c.args.slots.now))) c.args.rows.now)
    (clear_everywhere c.args.slots.now c.requires.ascend c.args.order c.args.rows.now
    (all_of_front (IsClearAt c.args.order c.args.rows.now) c.args.slots.now c.loop-slot.slot-index c.loop-slot-test.false c.loop-slot.auto.slot-index-end c.loop-slot.invariant))
