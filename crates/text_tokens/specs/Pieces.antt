-- What the reader's pieces of a text stand for.
use Rattle.std.specs.Prelude.{ℕ, List, drop, slice_range, if◌then◌else◌, ◌==◌}
use Rattle.text_tokens.specs.Tokens.{Token, Placed, number, name, plus, minus, star, slash, caret, opening, closing, other, is_digit, is_letter, nothing, tokens_from}
use Rattle.text_tokens.specs.declared.tokens.Kind.{Kind}
use Rattle.text_tokens.specs.declared.tokens.Kind.TheVariants as kind
use Rattle.text_tokens.specs.declared.tokens.Piece.{Piece}

-- the token of this kind with these bytes, at this offset
abbrev pub token_of : Kind → ℕ → List ℕ → Token
token_of kind.Number at bytes = number bytes
token_of kind.Name at bytes = name bytes
token_of kind.Plus at bytes = plus
token_of kind.Minus at bytes = minus
token_of kind.Star at bytes = star
token_of kind.Slash at bytes = slash at
token_of kind.Caret at bytes = caret
token_of kind.Opening at bytes = opening
token_of kind.Closing at bytes = closing
token_of kind.Other at bytes = other

abbrev pub placed_piece : List ℕ → Piece → Placed
placed_piece text p = record { at = p.at; token = token_of p.kind p.at (slice_range text p.at p.end) }

-- the kind of what begins with this byte
abbrev pub kind_of_byte : ℕ → Kind
kind_of_byte b =
    if is_digit b then kind.Number else if is_letter b then kind.Name
    else if b == 43 then kind.Plus else if b == 45 then kind.Minus else if b == 42 then kind.Star
    else if b == 47 then kind.Slash else if b == 94 then kind.Caret
    else if b == 40 then kind.Opening else if b == 41 then kind.Closing else kind.Other

-- the tokens of the bytes from an offset on
abbrev pub rest_from : List ℕ → ℕ → List Placed
rest_from bytes from = tokens_from nothing from (drop from bytes)
