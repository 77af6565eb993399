-- A list file, the text that names integrals of one family to be selected. The project's own. A text is
-- the list of its bytes: 91 is `[`, 93 `]`.
use Rattle.std.specs.Prelude.{ℕ, ◌+◌, ◌-◌, Bool, if◌then◌else◌, ◌&&◌, ◌==◌, nat_le, List, [], ◌∷◌, length, take, drop, slice_index, Ok}
use Rattle.std.specs.List.{list_all, prefix_len}
use Rattle.std.specs.Str.{bytes_eq}
use Rattle.yaml_text.specs.Lines.{Bytes, is_empty, skip, cut, bare}
use Rattle.text_tokens.specs.Names.{is_name}
use Rattle.text_tokens.specs.Tokens.{is_name_byte}
use Rattle.input_schema.specs.declared.faults.File.{File}
use Rattle.input_schema.specs.declared.faults.InputKind.TheVariants.{BadLine, UnknownName, WrongCount}
use Rattle.input_schema.specs.Readings.{Outcome, refuse, ◌>>=◌, each}
use Rattle.integral_index.specs.Integral.{Integral}
use Rattle.list_schema.specs.Indices.{pieces, is_index, indices}

-- ---- the form of a line

-- how many letters, digits and `_` stand at the front, and these
abbrev pub name_length : Bytes → ℕ
name_length = prefix_len is_name_byte

abbrev pub name_in : Bytes → Bytes
name_in text = take (name_length text) text

-- what stands behind them, without the spaces between
abbrev pub behind_name : Bytes → Bytes
behind_name text = skip (drop (name_length text) text)

-- the first byte is `[`, and the last is `]`
abbrev pub is_bracketed : Bytes → Bool
is_bracketed text = nat_le 2 (length text) && slice_index text 0 == 91 && slice_index text (length text - 1) == 93

-- what stands between the first byte and the last
abbrev pub between : Bytes → Bytes
between text = take (length text - 2) (drop 1 text)

-- what stands between the brackets behind a name
abbrev pub inner : Bytes → Bytes
inner text = between (behind_name text)

-- The form of an integral: a name, `[`, numbers joined by commas, and `]`, with spaces between these parts.
abbrev pub is_integral : Bytes → Bool
is_integral text = is_name (name_in text) && is_bracketed (behind_name text) && list_all is_index (pieces (inner text))

-- ---- what a line names

-- the integral of this family with the indices that a text writes, of which there must be so many
abbrev pub counted : File → ℕ → ℕ → ℕ → Bytes → Outcome Integral
counted file line family width text =
    if length (pieces text) == width
    then indices file line text >>= (λ found. Ok (record { family = family; indices = found }))
    else refuse file line WrongCount

-- The integral that a line names: it has the form of an integral; the name is that of the family; and the
-- indices are as many as the family has, each from -101 to 101.
abbrev pub integral : File → ℕ → ℕ → Bytes → ℕ → Bytes → Outcome Integral
integral file line family name width text =
    if is_integral text
    then (if bytes_eq (name_in text) name then counted file line family width (inner text) else refuse file line UnknownName)
    else refuse file line BadLine

-- ---- the lines

-- a line's number, counted from 1, and its text without the spaces before it
pub record Line : Type 0 where
  pub number : ℕ
  pub text : Bytes

-- the lines from this number on: without comments and trailing spaces, and without those that have no byte then
unfoldable pub lines_from : ℕ → List Bytes → List Line
lines_from number [] = []
lines_from number (raw ∷ raws) =
    if is_empty (bare raw) then lines_from (number + 1) raws else record { number = number; text = skip (bare raw) } ∷ lines_from (number + 1) raws

-- the integral that a line names
abbrev pub on_line : File → ℕ → Bytes → ℕ → Line → Outcome Integral
on_line file family name width line = integral file line.number family name width line.text

-- The integrals that the lines of a text name, in order, or the first fault.
unfoldable pub list_file : File → ℕ → Bytes → ℕ → Bytes → Outcome (List Integral)
list_file file family name width text = each (on_line file family name width) [] (lines_from 1 (cut text))
