-- No term so far is of the unit.
use Rattle.std.proofs.Common.{◌≢◌, All, take}
use Rattle.integral_index.specs.Order.{unit_of}
use Rattle.reduction_core.proofs.acceptance.shows_nothing_of.Given as goal

abbrev pub invariant-loop-term : goal.invariant-loop-term
invariant-loop-term l = All (λ term. unit_of term.integral ≢ l.unit) (take l.term-index l.terms)
