-- No unit from here on may go forward.
use Rattle.std.proofs.Common.{◌≤◌, length}
use Rattle.reduction_core.proofs.ReadyLemmas.{NoneFrom}
use Rattle.reduction_core.proofs.readiness.forward_turn.Given as goal

abbrev pub invariant-loop-place : goal.invariant-loop-place
invariant-loop-place l = (l.place ≤ length l.slots) × NoneFrom l.order l.slots l.busy l.place

abbrev pub decreases-loop-place : goal.decreases-loop-place
decreases-loop-place l = l.place
