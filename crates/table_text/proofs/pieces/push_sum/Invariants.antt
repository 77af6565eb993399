use Rattle.std.proofs.Common.{◌≡◌, ◌++◌, codes, take}
use Rattle.std.specs.List.{flat_map}
use Rattle.sparse_row.specs.Terms.{entry_of}
use Rattle.table_text.specs.Pieces.{name_of, term_text}
use Rattle.table_text.proofs.pieces.push_sum.Given as goal

abbrev pub invariant-loop-term : goal.invariant-loop-term
invariant-loop-term l =
    l.text.items ≡ l.initial.text.items ++ flat_map (λ term. codes " + " ++ term_text (name_of l.names) (entry_of term)) (take l.term-index l.rest)
