-- The grammar of momenta, and the coefficients that a text gives. The project's own.
use Rattle.std.specs.Prelude.{◌≡◌, ℕ, ◌+◌, ◌^◌, Bool, true, false, if◌then◌else◌, not, ◌&&◌, nat_le, nat_lt, Some, None, List, [], ◌∷◌, ◌++◌, map, fold, length, pos, negsuc, ◌-ℤ◌, ◌≤ℤ◌, ℤ}
use Rattle.std.specs.List.{list_any}
use Rattle.std.specs.Str.{bytes_eq}
use Rattle.text_tokens.specs.declared.faults.TextKind.{TextKind}
use Rattle.text_tokens.specs.declared.faults.TextKind.TheVariants as text_kind
use Rattle.text_tokens.specs.Tokens.{Sign, sign_token, Token, number, name, plus, minus, star, slash, caret, opening, closing, other, tokens_of, number_of}
use Rattle.text_tokens.specs.Names.{is_among}
use Rattle.text_tokens.specs.Faults.{tokens_in, Blame, IsBlameless, IsFirstFault}

-- Grammar: momentum = [sign] term { sign term }, term = [ number "*" ] name, sign = "+" or "-".
pub data Term : Type 0 where
  bare : (bytes : List ℕ) → Term
  scaled : (digits bytes : List ℕ) → Term

pub data Terms : Type 0 where
  alone : Term → Terms
  signed : Sign → Term → Terms
  followed : Terms → Sign → Term → Terms

-- how each is written
abbrev pub term_tokens : Term → List Token
term_tokens (bare bytes) = name bytes ∷ []
term_tokens (scaled digits bytes) = number digits ∷ star ∷ name bytes ∷ []

abbrev pub terms_tokens : Terms → List Token
terms_tokens (alone t) = term_tokens t
terms_tokens (signed s t) = sign_token s ∷ term_tokens t
terms_tokens (followed m s t) = terms_tokens m ++ sign_token s ∷ term_tokens t

-- the tokens are a text of the grammar
abbrev pub IsMomentumText : List Token → Type 0
IsMomentumText ts = (m : Terms) × (terms_tokens m ≡ ts)

-- What the tokens so far add to a name's coefficient and take from it, with the sign and the factor that
-- the next name has.
pub record Sum : Type 0 where
  pub is_negative : Bool
  pub factor : ℕ
  pub added : ℕ
  pub taken : ℕ

abbrev pub sum_after : List ℕ → Sum → Token → Sum
sum_after w s plus = record s { is_negative = false; factor = 1 }
sum_after w s minus = record s { is_negative = true; factor = 1 }
sum_after w s (number digits) = record s { factor = number_of digits }
sum_after w s (name bytes) =
    if bytes_eq w bytes then
    (if s.is_negative then record s { taken = s.taken + s.factor } else record s { added = s.added + s.factor })
    else s
sum_after w s star = s
sum_after w s (slash at) = s
sum_after w s caret = s
sum_after w s opening = s
sum_after w s closing = s
sum_after w s other = s

abbrev pub sum_of : List Token → List ℕ → Sum
sum_of ts w = fold (sum_after w) (record { is_negative = false; factor = 1; added = 0; taken = 0 }) ts

-- the coefficient of a name: the sum of its terms
abbrev pub coefficient_of : List Token → List ℕ → ℤ
coefficient_of ts w = pos (sum_of ts w).added -ℤ pos (sum_of ts w).taken

-- at most 1000 in size
abbrev pub is_small : Sum → Bool
is_small s = nat_le s.added (s.taken + 1000) && nat_le s.taken (s.added + 1000)

abbrev pub is_named : List ℕ → Token → Bool
is_named w (name bytes) = bytes_eq w bytes
is_named w (number digits) = false
is_named w plus = false
is_named w minus = false
is_named w star = false
is_named w (slash at) = false
is_named w caret = false
is_named w opening = false
is_named w closing = false
is_named w other = false

-- Unknown names, numbers above 2^128 - 1 or above 1000, and, at the last token of its name, a sum above
-- 1000 in size.
abbrev pub momentum_blame : List (List ℕ) → Blame
momentum_blame names before (number digits) after =
    if nat_le (2 ^ 128) (number_of digits) then Some text_kind.NumberTooWide
    else if nat_lt 1000 (number_of digits) then Some text_kind.OutOfRange else None
momentum_blame names before (name w) after =
    if not (is_among names w) then Some text_kind.UnknownName
    else if not (list_any (is_named w) after) && not (is_small (sum_of (before ++ name w ∷ []) w)) then Some text_kind.OutOfRange
    else None
momentum_blame names before plus after = None
momentum_blame names before minus after = None
momentum_blame names before star after = None
momentum_blame names before (slash at) after = None
momentum_blame names before caret after = None
momentum_blame names before opening after = None
momentum_blame names before closing after = None
momentum_blame names before other after = None

-- the text is a momentum over the names, with these coefficients, one per name
pub record IsMomentum (names : List (List ℕ)) (text : List ℕ) (coefficients : List ℤ) : Type 0 where
  pub grammar : IsMomentumText (tokens_in (tokens_of text))
  pub blameless : IsBlameless (momentum_blame names) [] (tokens_in (tokens_of text))
  pub sums : coefficients ≡ map (coefficient_of (tokens_in (tokens_of text))) names

abbrev pub IsMomentumFault : List (List ℕ) → List ℕ → ℕ → TextKind → Type 0
IsMomentumFault names text at kind =
    IsFirstFault IsMomentumText (momentum_blame names) text_kind.BadMomentum (length text) [] (tokens_of text) at kind

-- from -1000 to 1000
abbrev pub IsCoefficient : ℤ → Type 0
IsCoefficient c = (negsuc 999 ≤ℤ c) × (c ≤ℤ pos 1000)
