-- The next piece of a text, and what stands behind it.
use Rattle.std.specs.Prelude.{ℕ, ◌+◌, Bool, true, false, ◌&&◌, ◌||◌, if◌then◌else◌, ◌==◌, [], ◌∷◌, take, drop, Option, Some, None, codes}
use Rattle.std.specs.Str.{bytes_eq}
use Rattle.yaml_text.specs.declared.fault.YamlKind.{YamlKind}
use Rattle.yaml_text.specs.declared.fault.YamlKind.TheVariants.{Merge, Indicator, BlockScalar}
use Rattle.yaml_text.specs.declared.token.Token.{Token}
use Rattle.yaml_text.specs.declared.token.Token.TheVariants.{OpenList, CloseList, OpenMap, CloseMap, Comma, Key, Scalar, Bad}
use Rattle.yaml_text.specs.Lines.{Bytes, begins, skip, trim_end}
use Rattle.yaml_text.specs.Words.{Words, ends_here, is_colon, plain_length, is_whole, quoted_length}

-- A text with a colon behind it that ends a key is that key, and else a scalar.
abbrev pub named : Words → Bytes → Token × Bytes
named words after = if is_colon after then (Key words, skip (drop 1 after)) else (Scalar words, skip after)

abbrev pub plain : Bytes → Token × Bytes
plain text =
    let words : Bytes = trim_end (take (plain_length text) text) in
    if is_whole words then named (record { plain = true; text = words }) (drop (plain_length text) text) else (Bad, [])

-- behind the opening quote
abbrev pub quoted : Bytes → Token × Bytes
quoted text =
    if begins 34 (drop (quoted_length text) text)
    then named (record { plain = false; text = take (quoted_length text) text }) (skip (drop (quoted_length text + 1) text))
    else (Bad, [])

-- the first piece of a text that begins with no space, and the text behind it and its spaces
unfoldable pub piece : Bytes → Token × Bytes
piece [] = (Bad, [])
piece (b ∷ bs) =
    if b == 34 then quoted bs
    else (if b == 91 then (OpenList, skip bs)
    else (if b == 93 then (CloseList, skip bs)
    else (if b == 123 then (OpenMap, skip bs)
    else (if b == 125 then (CloseMap, skip bs)
    else (if b == 44 then (Comma, skip bs)
    else plain (b ∷ bs))))))

abbrev pub token : Bytes → Token
token text = (piece text).0

abbrev pub behind : Bytes → Bytes
behind text = (piece text).1

-- ---- the faults of a key or a scalar

-- `&`, `*`, `!`, `%`, `@` or a back quote
abbrev pub is_sign : ℕ → Bool
is_sign b = b == 38 || b == 42 || b == 33 || b == 37 || b == 64 || b == 96

-- It begins with one of these, is `?`, or begins with `? `.
abbrev pub is_indicator : Bytes → Bool
is_indicator [] = false
is_indicator (b ∷ bs) = is_sign b || (b == 63 && ends_here bs)

-- It begins with a vertical bar or `>`.
abbrev pub is_block_scalar : Bytes → Bool
is_block_scalar text = begins 124 text || begins 62 text

abbrev pub plain_fault : Bytes → Option YamlKind
plain_fault text = if is_indicator text then Some Indicator else (if is_block_scalar text then Some BlockScalar else None)

-- A quoted text has no fault.
unfoldable pub scalar_fault : Words → Option YamlKind
scalar_fault words = if words.plain then plain_fault words.text else None

unfoldable pub key_fault : Words → Option YamlKind
key_fault words = if words.plain && bytes_eq words.text (codes "<<") then Some Merge else scalar_fault words
