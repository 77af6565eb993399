-- The rows so far wait.
use Rattle.std.specs.List.{AllZip}
use Rattle.reduction_core.specs.Slots.{IsJoined}
use Rattle.reduction_core.proofs.slots.joined.Given as goal

abbrev pub invariant-loop-row : goal.invariant-loop-row
invariant-loop-row l =
    (goal.iterator-loop-row).can_next l.row-iterator × (goal.iterator-loop-row).is_finite l.row-iterator × AllZip (IsJoined l.order l.yielded) l.initial.slots.items l.slots.items
