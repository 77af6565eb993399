-- The indices of an integral: numbers with their signs, joined by commas. The project's own. A text is the
-- list of its bytes: 32 is a space, 44 a comma, 45 a minus sign.
use Rattle.std.specs.Prelude.{ℕ, ℤ, pos, neg_ℤ, Bool, false, not, if◌then◌else◌, ◌==◌, nat_le, List, [], ◌∷◌, drop, Ok}
use Rattle.std.specs.List.{prefix_len}
use Rattle.yaml_text.specs.Lines.{Bytes, onto_first, skip, trim_end}
use Rattle.text_tokens.specs.Tokens.{number_of}
use Rattle.input_schema.specs.declared.faults.File.{File}
use Rattle.input_schema.specs.declared.faults.InputKind.TheVariants.{OutOfRange}
use Rattle.input_schema.specs.Readings.{Outcome, refuse, each}
use Rattle.input_schema.specs.Numbers.{is_negative, is_number, unsigned}

-- What stands between the commas, of which each ends a piece: a text without a comma is one piece.
unfoldable pub pieces : Bytes → List Bytes
pieces [] = [] ∷ []
pieces (b ∷ bs) = if b == 44 then [] ∷ pieces bs else onto_first b (pieces bs)

-- without the spaces around it
abbrev pub trim : Bytes → Bytes
trim text = trim_end (skip text)

-- digits, and a minus sign or nothing directly before them, with spaces around
abbrev pub is_index : Bytes → Bool
is_index piece = is_number (unsigned (trim piece))

-- the number, or minus it
abbrev pub signed : Bool → ℕ → ℤ
signed negative n = if negative then neg_ℤ (pos n) else pos n

-- the index that a piece writes, from -101 to 101
abbrev pub index : File → ℕ → Bytes → Outcome ℤ
index file line piece =
    if nat_le (number_of (unsigned (trim piece))) 101
    then Ok (signed (is_negative (trim piece)) (number_of (unsigned (trim piece))))
    else refuse file line OutOfRange

-- the indices that the pieces of a text write
abbrev pub indices : File → ℕ → Bytes → Outcome (List ℤ)
indices file line text = each (index file line) [] (pieces text)

-- ---- words of the functions that cut a text at its commas

-- how many bytes stand before the first comma
abbrev pub piece_length : Bytes → ℕ
piece_length = prefix_len (λ b. not (b == 44))
