-- The rows so far are parted.
use Rattle.std.proofs.Common.{◌≡◌, ◌<◌, ℕ, length, get_or}
use Rattle.sparse_row.specs.Row.{Row}
use Rattle.sector_forward.specs.Parting.{IsParted}
use Rattle.sector_forward.proofs.elimination.part.Given as goal

abbrev pub invariant-loop-row : goal.invariant-loop-row
invariant-loop-row l =
    (goal.iterator-loop-row).can_next l.row-iterator × (goal.iterator-loop-row).is_finite l.row-iterator × IsParted l.order l.unit l.yielded l.parted.own.items l.parted.rest.items
    × ((k : ℕ) (d : Row) → k < length l.yielded → get_or l.yielded k d ≡ get_or l.fn.rows.items k d)
