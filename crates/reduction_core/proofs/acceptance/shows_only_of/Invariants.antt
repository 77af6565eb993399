-- The integrals of the terms so far are shown by some of the others.
use Rattle.std.proofs.Common.{All, take}
use Rattle.sector_forward.specs.Elimination.{IsShownBySome}
use Rattle.reduction_core.proofs.acceptance.shows_only_of.Given as goal

abbrev pub invariant-loop-term : goal.invariant-loop-term
invariant-loop-term l = All (λ term. IsShownBySome l.others term.integral) (take l.term-index l.terms)
