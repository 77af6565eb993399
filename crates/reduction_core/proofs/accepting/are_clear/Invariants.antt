-- The pivots of the back rows so far aren't shown.
use Rattle.std.proofs.Common.{All, take}
use Rattle.reduction_core.specs.Accepting.{IsClearAt}
use Rattle.reduction_core.proofs.accepting.are_clear.Given as goal

abbrev pub invariant-loop-slot : goal.invariant-loop-slot
invariant-loop-slot l = All (IsClearAt l.order l.rows) (take l.slot-index l.slots)
