-- No unit before this place may go back.
use Rattle.reduction_core.proofs.ReadyLemmas.{NoneBefore}
use Rattle.reduction_core.proofs.readiness.back_turn.Given as goal

abbrev pub invariant-loop-place : goal.invariant-loop-place
invariant-loop-place l = NoneBefore l.slots l.busy l.place
