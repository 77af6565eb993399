-- No term so far is of a pivot.
use Rattle.sector_forward.proofs.Shown.{NoPivotBefore}
use Rattle.sector_forward.proofs.steps.last_shown.Given as goal

abbrev pub invariant-loop-term : goal.invariant-loop-term
invariant-loop-term l = NoPivotBefore l.order l.rows l.terms l.term-index
