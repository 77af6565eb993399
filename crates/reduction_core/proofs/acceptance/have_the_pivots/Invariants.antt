-- The pivots of the others so far are among those of the rows.
use Rattle.std.proofs.Common.{All, take}
use Rattle.reduction_core.specs.Acceptance.{KeepsPivot}
use Rattle.reduction_core.proofs.acceptance.have_the_pivots.Given as goal

abbrev pub invariant-loop-other : goal.invariant-loop-other
invariant-loop-other l = All (KeepsPivot l.order l.rows) (take l.other-index l.others)
