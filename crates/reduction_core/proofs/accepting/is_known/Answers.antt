-- The forward rows stand before the back rows.
use Rattle.std.proofs.Common.{◌++◌}
use Rattle.sector_forward.specs.Elimination.{IsShownBySome}
use Rattle.sector_machine.specs.Machine.{back_rows}
use Rattle.reduction_core.specs.Slots.{state_of}
use Rattle.reduction_core.proofs.CheckLemmas.{untrue, always}
use Rattle.reduction_core.proofs.AcceptingLemmas.{shown_left, shown_right, shown_behind}
use Rattle.reduction_core.proofs.accepting.is_known.Goals as goal

pub returns-then-is_shown_by_some : goal.returns-then-is_shown_by_some
returns-then-is_shown_by_some c =
    let back = back_rows (state_of c.args.slots.now) in
    always (IsShownBySome (c.args.forward.now ++ back) c.args.x.now) (shown_left c.args.forward.now back c.args.x.now (c.is_shown_by_some.ensures.0 c.if-is_shown_by_some.true))

pub returns : goal.returns
returns c =
    let back = back_rows (state_of c.args.slots.now) in
    let none = untrue c.is_shown_by_some.result (IsShownBySome c.args.forward.now c.args.x.now) c.if-is_shown_by_some.false c.is_shown_by_some.ensures in (
      λ test. shown_behind c.args.forward.now back c.args.x.now (c.is_shown_by_back.ensures.0 test),
      λ shown. c.is_shown_by_back.ensures.1 (shown_right c.args.forward.now back c.args.x.now none shown),
    )
