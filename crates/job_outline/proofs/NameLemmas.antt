-- The names of the families.
use Rattle.std.proofs.Common.{◌≡◌, List, length, ap, ◌∙◌}
use Rattle.std.proofs.lemmas.List.{length-map}
use Rattle.yaml_text.specs.Lines.{Bytes}
use Rattle.family_schema.specs.declared.content.Family.{Family}
use Rattle.job_outline.specs.Readings.{names_of}

-- there are as many names as families
pub named_all : (families : List Family) (names : List Bytes) → names ≡ names_of families → length names ≡ length families
named_all families names same = ap (λ (xs : List Bytes). length xs) same ∙ length-map families (λ family. family.name)
