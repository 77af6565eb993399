-- The integrals of the terms so far are shown by some of the others.
use Rattle.std.proofs.Common.{◌++◌}
use Rattle.sector_machine.specs.Machine.{back_rows}
use Rattle.reduction_core.specs.Slots.{state_of}
use Rattle.std.proofs.Common.{All, take}
use Rattle.sector_forward.specs.Elimination.{IsShownBySome}
use Rattle.reduction_core.proofs.accepting.shows_only_known.Given as goal

abbrev pub invariant-loop-term : goal.invariant-loop-term
invariant-loop-term l = All (λ term. IsShownBySome (l.forward ++ back_rows (state_of l.slots)) term.integral) (take l.term-index l.terms)
