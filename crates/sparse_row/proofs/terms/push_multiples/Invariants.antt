use Rattle.std.proofs.Common.{◌≡◌, ◌++◌, take}
use Rattle.std.specs.List.{flat_map}
use Rattle.sparse_row.specs.Terms.{scaled_term, kept_term}
use Rattle.sparse_row.proofs.terms.push_multiples.Given as goal

abbrev pub invariant-loop-other : goal.invariant-loop-other
invariant-loop-other l =
    l.sum.items ≡ l.initial.sum.items ++ flat_map (λ other. kept_term (scaled_term l.modulus l.factor other)) (take l.other-index l.others)
