-- The slot of the unit has back rows, or there is none.
use Rattle.std.proofs.Common.{true, false, is_some, sym, ap}
use Rattle.reduction_core.specs.Slots.{by_unit, back_of}
use Rattle.sector_machine.specs.State.{Has}
use Rattle.reduction_core.proofs.CheckLemmas.{never}
use Rattle.reduction_core.proofs.ReadyLemmas.{has_back_at, has_back_not}
use Rattle.reduction_core.proofs.readiness.has_back.Goals as goal

pub returns-in-Some-back : goal.returns-in-Some-back
returns-in-Some-back c =
    has_back_at c.args.slots.now c.args.unit c.in-Some.place c.index-slots-place.result true c.requires c.in-Some.ensures c.index-slots-place.is (sym (ap is_some c.in-Some-back.is))

pub returns-in-None-back : goal.returns-in-None-back
returns-in-None-back c =
    has_back_at c.args.slots.now c.args.unit c.in-Some.place c.index-slots-place.result false c.requires c.in-Some.ensures c.index-slots-place.is (sym (ap is_some c.in-None-back.is))

pub returns-in-None : goal.returns-in-None
returns-in-None c = never (Has (by_unit back_of c.args.slots.now) c.args.unit) (has_back_not c.args.slots.now c.args.unit c.in-None.ensures)
