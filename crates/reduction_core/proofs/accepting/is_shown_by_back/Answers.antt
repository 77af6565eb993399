-- The first slot with a back row that shows the integral settles the answer.
use Rattle.sector_forward.specs.Elimination.{IsShownBySome}
use Rattle.sector_machine.specs.Machine.{back_rows}
use Rattle.reduction_core.specs.Slots.{state_of}
use Rattle.reduction_core.specs.Accepting.{back_part}
use Rattle.reduction_core.proofs.CheckLemmas.{untrue, never, always, all_of_front_more}
use Rattle.reduction_core.proofs.RowTests.{some_found, none_found}
use Rattle.reduction_core.proofs.AcceptingLemmas.{shown_everywhere, shown_somewhere}
use Rattle.reduction_core.proofs.accepting.is_shown_by_back.Goals as goal

pub returns-then-is_shown_at : goal.returns-then-is_shown_at
returns-then-is_shown_at c =
    let slots = c.args.slots.now in
    let x = c.args.x.now in
    always (IsShownBySome (back_rows (state_of slots)) x)
    (shown_everywhere slots c.requires x
    (some_found (λ slot. IsShownBySome (back_part slot) x) slots c.loop-slot.slot-index c.slot-item.result c.loop-slot-test.true c.slot-item.is (c.is_shown_at.ensures.0 c.if-is_shown_at.true)))

pub loop-slot-preserved : goal.loop-slot-preserved
loop-slot-preserved c =
    all_of_front_more (λ slot. ¬ (IsShownBySome (back_part slot) c.args.x.now)) c.args.slots.now c.loop-slot.slot-index c.slot-item.result c.loop-slot-test.true c.slot-item.is c.loop-slot.invariant
    (untrue c.is_shown_at.result (IsShownBySome (back_part c.slot-item.result) c.args.x.now) c.if-is_shown_at.false c.is_shown_at.ensures)

pub returns : goal.returns
returns c =
    let slots = c.args.slots.now in
    let x = c.args.x.now in
    never (IsShownBySome (back_rows (state_of slots)) x)
    (λ shown.
    none_found (λ slot. IsShownBySome (back_part slot) x) slots c.loop-slot.slot-index c.loop-slot-test.false c.loop-slot.auto.slot-index-end c.loop-slot.invariant
    (shown_somewhere slots c.requires x shown))
