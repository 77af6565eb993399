-- The rows so far have pivots.
use Rattle.std.proofs.Common.{All, take}
use Rattle.sector_forward.specs.Steps.{HasPivot}
use Rattle.reduction_core.proofs.checks.have_pivots.Given as goal

abbrev pub invariant-loop-row : goal.invariant-loop-row
invariant-loop-row l = All (HasPivot l.order) (take l.row-index l.table)
