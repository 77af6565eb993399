-- The tokens of a text, of which the grammars of values and momenta speak. The project's own.
use Rattle.std.specs.Prelude.{ℕ, ◌+◌, ◌-◌, ◌*◌, fold, Bool, if◌then◌else◌, nat_le, ◌&&◌, ◌||◌, ◌==◌, List, [], ◌∷◌, ◌++◌}

-- A number with its digits, a name with its bytes, the marks, of which a slash tells its offset, and any
-- other byte.
pub data Token : Type 0 where
  number : (digits : List ℕ) → Token
  name : (bytes : List ℕ) → Token
  plus : Token
  minus : Token
  star : Token
  slash : (at : ℕ) → Token
  caret : Token
  opening : Token
  closing : Token
  other : Token

-- "+" or "-"
pub data Sign : Type 0 where
  plus_sign : Sign
  minus_sign : Sign

abbrev pub sign_token : Sign → Token
sign_token plus_sign = plus
sign_token minus_sign = minus

-- a token, and the offset of its first byte
pub record Placed : Type 0 where
  pub at : ℕ
  pub token : Token

-- '0' to '9'
abbrev pub is_digit : ℕ → Bool
is_digit b = nat_le 48 b && nat_le b 57

-- 'A' to 'Z' and 'a' to 'z'
abbrev pub is_letter : ℕ → Bool
is_letter b = (nat_le 65 b && nat_le b 90) || (nat_le 97 b && nat_le b 122)

-- what a name consists of: letters, digits and '_'
abbrev pub is_name_byte : ℕ → Bool
is_name_byte b = is_letter b || is_digit b || (b == 95)

-- the number that decimal digits write
abbrev pub with_digit : ℕ → ℕ → ℕ
with_digit n digit = n * 10 + (digit - 48)

abbrev pub number_of : List ℕ → ℕ
number_of digits = fold with_digit 0 digits

-- the token of a byte that begins neither a number nor a name
abbrev pub mark_at : ℕ → ℕ → Token
mark_at at b =
    if b == 43 then plus else if b == 45 then minus else if b == 42 then star
    else if b == 47 then slash at else if b == 94 then caret
    else if b == 40 then opening else if b == 41 then closing else other

-- what the bytes before belong to: nothing, or a number or a name that began at an offset and has these
-- bytes so far
pub data Open : Type 0 where
  nothing : Open
  in_number : (at : ℕ) (digits : List ℕ) → Open
  in_name : (at : ℕ) (bytes : List ℕ) → Open

-- The tokens that begin at the byte b at this offset; `more` gives those of the bytes after it. Spaces
-- stand between tokens.
abbrev pub begin_at : ℕ → ℕ → (Open → List Placed) → List Placed
begin_at at b more =
    if is_digit b then more (in_number at (b ∷ []))
    else if is_letter b then more (in_name at (b ∷ []))
    else if b == 32 then more nothing
    else record { at = at; token = mark_at at b } ∷ more nothing

-- The tokens of the bytes from an offset on. A number and a name are the longest run of their bytes.
unfoldable pub tokens_from : Open → ℕ → List ℕ → List Placed
tokens_from nothing at [] = []
tokens_from (in_number start digits) at [] = record { at = start; token = number digits } ∷ []
tokens_from (in_name start bytes) at [] = record { at = start; token = name bytes } ∷ []
tokens_from nothing at (b ∷ bs) = begin_at at b (λ o. tokens_from o (at + 1) bs)
tokens_from (in_number start digits) at (b ∷ bs) =
    if is_digit b then tokens_from (in_number start (digits ++ b ∷ [])) (at + 1) bs
    else record { at = start; token = number digits } ∷ begin_at at b (λ o. tokens_from o (at + 1) bs)
tokens_from (in_name start bytes) at (b ∷ bs) =
    if is_name_byte b then tokens_from (in_name start (bytes ++ b ∷ [])) (at + 1) bs
    else record { at = start; token = name bytes } ∷ begin_at at b (λ o. tokens_from o (at + 1) bs)

-- the tokens of a text
abbrev pub tokens_of : List ℕ → List Placed
tokens_of bytes = tokens_from nothing 0 bytes
