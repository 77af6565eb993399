-- No back row of the slots so far shows the integral.
use Rattle.std.proofs.Common.{All, take}
use Rattle.sector_forward.specs.Elimination.{IsShownBySome}
use Rattle.reduction_core.specs.Accepting.{back_part}
use Rattle.reduction_core.proofs.accepting.is_shown_by_back.Given as goal

abbrev pub invariant-loop-slot : goal.invariant-loop-slot
invariant-loop-slot l = All (λ slot. ¬ (IsShownBySome (back_part slot) l.x)) (take l.slot-index l.slots)
