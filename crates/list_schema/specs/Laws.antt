-- Laws of the definitions of list files. The project's own.
use Rattle.std.specs.Prelude.{◌≡◌, ◌==◌, ℕ, Bool, true, not, List, [], ◌∷◌, ◌++◌}
use Rattle.std.specs.List.{list_all, list_any}
use Rattle.yaml_text.specs.Lines.{Bytes}
use Rattle.input_schema.specs.declared.faults.File.{File}
use Rattle.input_schema.specs.Readings.{Is, NeverSaysMissing}
use Rattle.list_schema.specs.Indices.{pieces}
use Rattle.list_schema.specs.Lists.{list_file}

-- pieces with a comma behind each but the last
abbrev pub joined : List Bytes → Bytes
joined [] = []
joined (p ∷ []) = p
joined (p ∷ q ∷ ps) = p ++ 44 ∷ joined (q ∷ ps)

abbrev pub has_comma : Bytes → Bool
has_comma = list_any (λ b. b == 44)

-- the pieces of a text, joined by commas, are the text
abbrev pub PiecesMakeTheText : Type 0
PiecesMakeTheText = (text : Bytes) → joined (pieces text) ≡ text

-- and none of them has a comma
abbrev pub PiecesHaveNoComma : Type 0
PiecesHaveNoComma = (text : Bytes) → list_all (λ piece. not (has_comma piece)) (pieces text) ≡ true

-- no text of a list file is refused as a file that is missing
abbrev pub ListsNeverSayMissing : Type 0
ListsNeverSayMissing = (file : File) (family : ℕ) (name : Bytes) (width : ℕ) (text : Bytes) → NeverSaysMissing (Is (list_file file family name width text))
