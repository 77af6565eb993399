use Rattle.std.proofs.Common.{◌≡◌, ◌++◌, map, take, drop}
use Rattle.sparse_row.specs.Terms.{scaled_term}
use Rattle.sparse_row.proofs.terms.scale.Given as goal

abbrev pub invariant-loop-i : goal.invariant-loop-i
invariant-loop-i l =
    l.terms.items ≡ map (λ term. scaled_term l.modulus l.factor term) (take l.i l.initial.terms.items) ++ drop l.i l.initial.terms.items
