-- The units so far have back rows, or are this one.
use Rattle.std.proofs.Common.{◌<◌, ℕ, get_or}
use Rattle.integral_index.specs.declared.Unit.{Unit}
use Rattle.reduction_core.specs.Slots.{by_unit, back_of}
use Rattle.reduction_core.specs.Ready.{IsDoneAt}
use Rattle.reduction_core.proofs.readiness.all_are_done.Given as goal

abbrev pub invariant-loop-other : goal.invariant-loop-other
invariant-loop-other l = (k : ℕ) (d : Unit) → k < l.other-index → IsDoneAt (by_unit back_of l.slots) l.unit (get_or l.units k d)
