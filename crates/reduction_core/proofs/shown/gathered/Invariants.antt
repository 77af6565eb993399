-- The integrals of the rows so far.
use Rattle.std.proofs.Common.{take}
use Rattle.reduction_core.proofs.ShownLemmas.{AreGathered}
use Rattle.reduction_core.proofs.shown.gathered.Given as goal

abbrev pub invariant-loop-row : goal.invariant-loop-row
invariant-loop-row l = AreGathered (take l.row-index l.rows) l.shown.items
