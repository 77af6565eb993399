-- Both are asked.
use Rattle.std.proofs.Common.{Contains}
use Rattle.sector_machine.specs.Machine.{MayForward}
use Rattle.reduction_core.specs.Slots.{state_of}
use Rattle.reduction_core.proofs.CheckLemmas.{untrue}
use Rattle.reduction_core.proofs.ReadyLemmas.{at, both_tested}
use Rattle.reduction_core.proofs.readiness.goes_forward.Goals as goal

pub returns-then-is_free : goal.returns-then-is_free
returns-then-is_free c =
    λ d.
    both_tested (¬ (Contains c.args.busy.now (at c.args.slots.now c.args.place d).unit)) (MayForward c.args.order (at c.args.slots.now c.args.place d).unit (state_of c.args.slots.now)) c.may_forward.result
    ((c.is_free.ensures d).0 c.if-is_free.true) (c.may_forward.ensures d)

pub returns-else-is_free : goal.returns-else-is_free
returns-else-is_free c =
    λ d. (λ yes. ((c.is_free.ensures d).0 yes, absurd (untrue c.is_free.result _ c.if-is_free.false (c.is_free.ensures d) ((c.is_free.ensures d).0 yes))), λ both. (c.is_free.ensures d).1 both.0)
