-- How many momenta the texts of a family are over.
use Rattle.std.proofs.Common.{◌≡◌, ℕ, ◌+◌, ◌<◌, List, ◌++◌, length, Option, Some, None, length-append, arith}
use Rattle.std.proofs.lemmas.List.Edits.{length-remove}
use Rattle.yaml_text.specs.Lines.{Bytes}
use Rattle.kinematics_schema.specs.declared.content.Conserved.{Conserved}
use Rattle.kinematics_schema.specs.Independent.{independents, HasCounts}
use Rattle.family_schema.specs.Scope.{shifted}

-- the loop momenta and the independent external ones
pub length-shifted : (loops externals : List Bytes) (conserved : Option Conserved) → HasCounts conserved (length externals) →
    length (independents (shifted (length loops) conserved) (loops ++ externals)) ≡ length loops + length (independents conserved externals)
length-shifted loops externals None h = length-append loops externals
length-shifted loops externals (Some c) h =
    let all = length-append loops externals in
    let within : length loops + c.place < length (loops ++ externals) = let low = h.0 in omega arith in
    let one = length-remove (loops ++ externals) (length loops + c.place) within in
    let other = length-remove externals c.place h.0 in omega arith
