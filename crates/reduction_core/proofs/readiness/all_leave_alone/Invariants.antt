-- The slots so far pass.
use Rattle.std.proofs.Common.{All, take}
use Rattle.reduction_core.specs.Ready.{LeavesAlone}
use Rattle.reduction_core.proofs.readiness.all_leave_alone.Given as goal

abbrev pub invariant-loop-slot : goal.invariant-loop-slot
invariant-loop-slot l = All (LeavesAlone l.unit) (take l.slot-index l.slots)
