-- The integrals of the terms so far stand behind what was there.
use Rattle.std.proofs.Common.{◌≡◌, ◌++◌, map, take}
use Rattle.sparse_row.proofs.Row.push_integrals.Given as goal

abbrev pub invariant-loop-term : goal.invariant-loop-term
invariant-loop-term l = l.integrals.items ≡ l.initial.integrals.items ++ map (λ term. term.integral) (take l.term-index l.terms)
