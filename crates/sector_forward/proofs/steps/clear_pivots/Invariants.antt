-- The pivots from `bound` on are cleared.
use Rattle.sector_forward.proofs.Clearing.{IsClearing}
use Rattle.sector_forward.proofs.steps.clear_pivots.Given as goal

abbrev pub invariant-loop-place : goal.invariant-loop-place
invariant-loop-place l = IsClearing l.modulus l.order l.rows l.bound l.fn.row l.row

abbrev pub decreases-loop-place : goal.decreases-loop-place
decreases-loop-place l = l.bound
