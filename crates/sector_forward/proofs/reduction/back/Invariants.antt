-- The table is made of the rows so far, each cleared.
use Rattle.sector_forward.proofs.Backing.{IsSoFar}
use Rattle.sector_forward.proofs.reduction.back.Given as goal

abbrev pub invariant-loop-row : goal.invariant-loop-row
invariant-loop-row l =
    (goal.iterator-loop-row).can_next l.row-iterator × (goal.iterator-loop-row).is_finite l.row-iterator × IsSoFar l.modulus l.order l.fn.rows.items l.yielded l.table.items
