-- Numbers, written in digits, and the sign before them. The project's own.
use Rattle.std.specs.Prelude.{ℕ, ◌^◌, Bool, false, if◌then◌else◌, ◌&&◌, ◌==◌, nat_le, nat_lt, [], ◌∷◌, length, drop, Ok}
use Rattle.std.specs.List.{list_all}
use Rattle.yaml_text.specs.declared.tree.Tree.{Tree}
use Rattle.yaml_text.specs.Lines.{Bytes}
use Rattle.text_tokens.specs.Tokens.{is_digit, number_of}
use Rattle.input_schema.specs.declared.faults.File.{File}
use Rattle.input_schema.specs.declared.faults.InputKind.TheVariants.{BadNumber, NumberTooWide, OutOfRange}
use Rattle.input_schema.specs.Readings.{Outcome, refuse, ◌>>=◌}
use Rattle.input_schema.specs.Nodes.{line_of, scalar}

-- one digit or more, and nothing else
abbrev pub is_number : Bytes → Bool
is_number text = nat_le 1 (length text) && list_all is_digit text

-- the text begins with a minus sign
abbrev pub is_negative : Bytes → Bool
is_negative [] = false
is_negative (b ∷ bs) = b == 45

-- the text without a minus sign at its front
abbrev pub unsigned : Bytes → Bytes
unsigned text = drop (if is_negative text then 1 else 0) text

-- the number that a text writes, if it is no wider than 128 bits
abbrev pub written_number : File → ℕ → Bytes → Outcome ℕ
written_number file line text =
    if is_number text
    then (if nat_lt (number_of text) (2 ^ 128) then Ok (number_of text) else refuse file line NumberTooWide)
    else refuse file line BadNumber

-- a scalar that writes a number, if it is no wider than 128 bits
abbrev pub wide_number : File → Tree → Outcome ℕ
wide_number file node = scalar file node >>= written_number file (line_of node)

abbrev pub in_range : File → ℕ → ℕ → ℕ → ℕ → Outcome ℕ
in_range file line least most n = if nat_le least n && nat_le n most then Ok n else refuse file line OutOfRange

-- a scalar that writes a number of this range
abbrev pub number : File → Tree → ℕ → ℕ → Outcome ℕ
number file node least most = wide_number file node >>= in_range file (line_of node) least most
