-- All pivots before `low` are less than x, and those from `high` on are greater.
use Rattle.std.proofs.Common.{◌-◌}
use Rattle.sector_forward.proofs.StepLemmas.{IsBetween}
use Rattle.sector_forward.proofs.steps.place_of_pivot.Given as goal

abbrev pub invariant-loop-low : goal.invariant-loop-low
invariant-loop-low l = IsBetween l.order l.rows l.x l.low l.high

abbrev pub decreases-loop-low : goal.decreases-loop-low
decreases-loop-low l = l.high - l.low
