-- The rows so far show nothing new.
use Rattle.std.proofs.Common.{All, take}
use Rattle.reduction_core.specs.Acceptance.{ShowsOnly}
use Rattle.reduction_core.proofs.acceptance.show_nothing_new.Given as goal

abbrev pub invariant-loop-row : goal.invariant-loop-row
invariant-loop-row l = All (ShowsOnly l.others) (take l.row-index l.rows)
