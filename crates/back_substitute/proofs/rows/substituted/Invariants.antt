-- At the pivots of the rows below, the terms so far were taken away from the sum of the parts.
use Rattle.back_substitute.proofs.Clearing.{IsPassing}
use Rattle.back_substitute.proofs.rows.substituted.Given as goal

abbrev pub invariant-loop-term : goal.invariant-loop-term
invariant-loop-term l = IsPassing l.modulus l.order l.below l.terms l.term-index l.fn.row l.parts.items
