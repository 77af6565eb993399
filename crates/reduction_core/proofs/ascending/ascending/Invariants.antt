-- The rows so far ascend.
use Rattle.std.proofs.Common.{◌≡◌, ◌<◌, ℕ, length, get_or, All}
use Rattle.sparse_row.specs.Row.{Row, IsRow}
use Rattle.sector_forward.specs.Steps.{IsStairs}
use Rattle.reduction_core.specs.Ascending.{HasMembers}
use Rattle.reduction_core.proofs.ascending.ascending.Given as goal

abbrev pub invariant-loop-row : goal.invariant-loop-row
invariant-loop-row l =
    (goal.iterator-loop-row).can_next l.row-iterator × (goal.iterator-loop-row).is_finite l.row-iterator × HasMembers l.yielded l.table.items
    × ((p : ℕ) → All (IsRow p l.order) l.fn.rows.items → IsStairs p l.order l.table.items)
    × ((k : ℕ) (d : Row) → k < length l.yielded → get_or l.yielded k d ≡ get_or l.fn.rows.items k d)
