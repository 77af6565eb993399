-- The coefficients so far are residues.
use Rattle.std.proofs.Common.{◌<◌, All, take}
use Rattle.reduction_core.proofs.acceptance.are_residues.Given as goal

abbrev pub invariant-loop-term : goal.invariant-loop-term
invariant-loop-term l = All (λ term. term.coefficient < l.modulus) (take l.term-index l.terms)
