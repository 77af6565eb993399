-- The unit has forward rows and no back rows, and the units that its forward rows show have them.
use Rattle.std.proofs.Common.{ap}
use Rattle.std.specs.Option.{option_map}
use Rattle.sector_machine.specs.Machine.{MayBack}
use Rattle.reduction_core.specs.Slots.{state_of}
use Rattle.reduction_core.proofs.CheckLemmas.{never}
use Rattle.reduction_core.proofs.ReadyLemmas.{at, held_ascend, may_back_tested, may_back_not_done, may_back_not_yet}
use Rattle.reduction_core.proofs.readiness.may_back.Goals as goal

pub all_are_done-requires : goal.all_are_done-requires
all_are_done-requires c = held_ascend c.args.order c.args.slots.now c.requires.held

pub returns-in-Some-back : goal.returns-in-Some-back
returns-in-Some-back c =
    λ d.
    never (MayBack (at c.args.slots.now c.args.place d).unit (state_of c.args.slots.now))
    (may_back_not_done c.args.order c.args.slots.now c.args.place c.index-slots-place.result d c.requires.held c.requires.place c.index-slots-place.is c.in-Some-back.field-0.items
    (ap (option_map (λ rows. rows.items)) c.in-Some-back.is))

pub returns-in-None-back : goal.returns-in-None-back
returns-in-None-back c =
    λ d.
    may_back_tested c.args.order c.args.slots.now c.args.place c.index-slots-place.result d c.requires.held c.requires.place c.index-slots-place.is c.all_are_done.result c.in-Some.rows c.units.result.now
    c.in-Some.is c.in-None-back.is c.units.ensures c.all_are_done.ensures

pub returns-in-None : goal.returns-in-None
returns-in-None c =
    λ d.
    never (MayBack (at c.args.slots.now c.args.place d).unit (state_of c.args.slots.now))
    (may_back_not_yet c.args.order c.args.slots.now c.args.place c.index-slots-place.result d c.requires.held c.requires.place c.index-slots-place.is c.in-None.is)
