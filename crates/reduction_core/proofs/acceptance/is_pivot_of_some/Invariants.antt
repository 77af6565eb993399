-- No row so far has this pivot.
use Rattle.std.proofs.Common.{All, take}
use Rattle.sparse_row.specs.Row.{IsPivot}
use Rattle.reduction_core.proofs.acceptance.is_pivot_of_some.Given as goal

abbrev pub invariant-loop-row : goal.invariant-loop-row
invariant-loop-row l = All (λ row. ¬ (IsPivot l.order row l.x)) (take l.row-index l.rows)
