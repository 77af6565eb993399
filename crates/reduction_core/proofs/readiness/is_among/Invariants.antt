-- None so far is the unit.
use Rattle.std.proofs.Common.{◌≢◌, ◌<◌, ℕ, get_or}
use Rattle.integral_index.specs.declared.Unit.{Unit}
use Rattle.reduction_core.proofs.readiness.is_among.Given as goal

abbrev pub invariant-loop-other : goal.invariant-loop-other
invariant-loop-other l = (k : ℕ) (d : Unit) → k < l.other-index → get_or l.units k d ≢ l.unit
