use Rattle.std.proofs.Common.{◌≡◌, ◌++◌, codes, take}
use Rattle.std.specs.List.{flat_map}
use Rattle.table_text.specs.Pieces.{integral_text, name_of}
use Rattle.table_text.proofs.whole.push_integrals.Given as goal

abbrev pub invariant-loop-integral : goal.invariant-loop-integral
invariant-loop-integral l =
    l.text.items ≡ l.initial.text.items ++ flat_map (λ x. integral_text (name_of l.names x.family) x ++ codes "\n") (take l.integral-index l.integrals)
