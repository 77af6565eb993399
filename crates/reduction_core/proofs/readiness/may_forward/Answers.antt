-- The unit has no forward rows, and the waiting rows of others leave it alone.
use Rattle.sector_machine.specs.Machine.{MayForward}
use Rattle.reduction_core.specs.Slots.{state_of}
use Rattle.reduction_core.proofs.CheckLemmas.{never}
use Rattle.reduction_core.proofs.ReadyLemmas.{at, may_forward_tested, may_forward_not}
use Rattle.reduction_core.proofs.readiness.may_forward.Goals as goal

pub returns-in-Some : goal.returns-in-Some
returns-in-Some c =
    λ d.
    never (MayForward c.args.order (at c.args.slots.now c.args.place d).unit (state_of c.args.slots.now))
    (may_forward_not c.args.order c.args.slots.now c.args.place c.index-slots-place.result d c.requires.held c.requires.place c.index-slots-place.is c.in-Some.field-0 c.in-Some.is)

pub returns-in-None : goal.returns-in-None
returns-in-None c =
    λ d. may_forward_tested c.args.order c.args.slots.now c.args.place c.index-slots-place.result d c.requires.held c.requires.place c.index-slots-place.is c.all_leave_alone.result c.in-None.is c.all_leave_alone.ensures
