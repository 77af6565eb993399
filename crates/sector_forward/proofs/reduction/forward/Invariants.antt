-- The table has the span of the equations so far.
use Rattle.std.proofs.Common.{All}
use Rattle.sparse_row.specs.Row.{IsRow}
use Rattle.sector_forward.specs.Steps.{IsForward}
use Rattle.sector_forward.proofs.reduction.forward.Given as goal

abbrev pub invariant-loop-equation : goal.invariant-loop-equation
invariant-loop-equation l =
    (goal.iterator-loop-equation).can_next l.equation-iterator × (goal.iterator-loop-equation).is_finite l.equation-iterator × All (IsRow l.modulus l.order) l.yielded × IsForward l.modulus l.order l.yielded l.table.items
