use Rattle.std.proofs.Common.{◌≡◌, drop, map}
use Rattle.text_tokens.specs.Names.{is_among}
use Rattle.family_schema.proofs.reader.unused.Given as goal

abbrev pub invariant-loop-family : goal.invariant-loop-family
invariant-loop-family l = is_among (map (λ family. family.name) l.found) l.name ≡ is_among (map (λ family. family.name) (drop l.family-index l.found)) l.name
