-- The grammar of values, and the tree that a text gives. The project's own.
use Rattle.std.specs.Prelude.{◌≡◌, ℕ, ◌+◌, ◌^◌, Bool, true, false, if◌then◌else◌, nat_le, nat_lt, ◌&&◌, Option, Some, None, List, [], ◌∷◌, ◌++◌, count_by, fold, length}
use Rattle.std.specs.Str.{bytes_eq}
use Rattle.text_tokens.specs.declared.faults.TextKind.{TextKind}
use Rattle.text_tokens.specs.declared.faults.TextKind.TheVariants as text_kind
use Rattle.text_tokens.specs.Tokens.{Token, Sign, plus_sign, minus_sign, sign_token, number, name, plus, minus, star, slash, caret, opening, closing, other, tokens_of, number_of}
use Rattle.text_tokens.specs.Names.{is_among}
use Rattle.text_tokens.specs.Faults.{tokens_in, Blame, IsBlameless, IsFirstFault}
use Rattle.rational_expressions.specs.Trees as tree

-- Grammar: sum = [ sign ] product { sign product }, product = power { ( "*" | "/" ) power },
-- power = atom [ "^" number ], atom = number | name | "(" sum ")".
mutual
  pub data Sum : Type 0 where
    first : Product → Sum
    signed : Sign → Product → Sum
    more : Sum → Sign → Product → Sum

  pub data Product : Type 0 where
    one : Power → Product
    times : Product → Power → Product
    over : Product → (at : ℕ) → Power → Product

  pub data Power : Type 0 where
    plain : Atom → Power
    raised : Atom → (digits : List ℕ) → Power

  pub data Atom : Type 0 where
    literal : (digits : List ℕ) → Atom
    variable : (bytes : List ℕ) → Atom
    group : Sum → Atom

-- how each is written
abbrev mutual
  pub sum_tokens : Sum → List Token
  sum_tokens (first p) = product_tokens p
  sum_tokens (signed s p) = sign_token s ∷ product_tokens p
  sum_tokens (more m s p) = sum_tokens m ++ sign_token s ∷ product_tokens p

  pub product_tokens : Product → List Token
  product_tokens (one w) = power_tokens w
  product_tokens (times p w) = product_tokens p ++ star ∷ power_tokens w
  product_tokens (over p at w) = product_tokens p ++ slash at ∷ power_tokens w

  pub power_tokens : Power → List Token
  power_tokens (plain a) = atom_tokens a
  power_tokens (raised a digits) = atom_tokens a ++ caret ∷ number digits ∷ []

  pub atom_tokens : Atom → List Token
  atom_tokens (literal digits) = number digits ∷ []
  atom_tokens (variable bytes) = name bytes ∷ []
  atom_tokens (group s) = opening ∷ (sum_tokens s ++ closing ∷ [])

-- the tokens are a text of the grammar
abbrev pub IsValueText : List Token → Type 0
IsValueText ts = (s : Sum) × (sum_tokens s ≡ ts)

-- the place of the first name with these bytes
abbrev pub place_of : List (List ℕ) → List ℕ → ℕ
place_of [] bytes = 0
place_of (n ∷ names) bytes = if bytes_eq n bytes then 0 else place_of names bytes + 1

-- The tree of each: powers bind tighter than products, products tighter than sums and signs, and what
-- binds alike goes from left to right.
abbrev mutual
  pub sum_tree : List (List ℕ) → Sum → tree.Tree
  sum_tree names (first p) = product_tree names p
  sum_tree names (signed plus_sign p) = product_tree names p
  sum_tree names (signed minus_sign p) = tree.negative (product_tree names p)
  sum_tree names (more m plus_sign p) = tree.sum (sum_tree names m) (product_tree names p)
  sum_tree names (more m minus_sign p) = tree.difference (sum_tree names m) (product_tree names p)

  pub product_tree : List (List ℕ) → Product → tree.Tree
  product_tree names (one w) = power_tree names w
  product_tree names (times p w) = tree.product (product_tree names p) (power_tree names w)
  product_tree names (over p at w) = tree.quotient at (product_tree names p) (power_tree names w)

  pub power_tree : List (List ℕ) → Power → tree.Tree
  power_tree names (plain a) = atom_tree names a
  power_tree names (raised a digits) = tree.power (atom_tree names a) (number_of digits)

  pub atom_tree : List (List ℕ) → Atom → tree.Tree
  atom_tree names (literal digits) = tree.number (number_of digits)
  atom_tree names (variable bytes) = tree.place (place_of names bytes)
  atom_tree names (group s) = sum_tree names s

abbrev pub is_opening : Token → Bool
is_opening opening = true
is_opening t = false

abbrev pub is_closing : Token → Bool
is_closing closing = true
is_closing t = false

abbrev pub is_sign : Token → Bool
is_sign plus = true
is_sign minus = true
is_sign star = true
is_sign (slash at) = true
is_sign caret = true
is_sign t = false

abbrev pub is_caret : Token → Bool
is_caret caret = true
is_caret t = false

-- the last token is "^"
abbrev pub ends_in_caret : List Token → Bool
ends_in_caret ts = fold (λ _ t. is_caret t) false ts

-- at most 1000 signs in one value
abbrev pub sign_blame : List Token → Option TextKind
sign_blame before = if nat_lt (count_by is_sign before) 1000 then None else Some text_kind.TooDeep

-- a number above 2^128 - 1, or an exponent above 64
abbrev pub number_blame : Bool → List ℕ → Option TextKind
number_blame is_exponent digits =
    if nat_le (2 ^ 128) (number_of digits) then Some text_kind.NumberTooWide
    else if is_exponent && nat_lt 64 (number_of digits) then Some text_kind.OutOfRange else None

-- Unknown names, numbers above 2^128 - 1, exponents above 64, the 33rd parenthesis that is open at once,
-- and the 1001st sign.
abbrev pub value_blame : List (List ℕ) → Blame
value_blame names before (number digits) after = number_blame (ends_in_caret before) digits
value_blame names before (name w) after = if is_among names w then None else Some text_kind.UnknownName
value_blame names before opening after =
    if nat_lt (count_by is_opening before) (count_by is_closing before + 32) then None else Some text_kind.TooDeep
value_blame names before plus after = sign_blame before
value_blame names before minus after = sign_blame before
value_blame names before star after = sign_blame before
value_blame names before (slash at) after = sign_blame before
value_blame names before caret after = sign_blame before
value_blame names before closing after = None
value_blame names before other after = None

-- the text is a value over the names, with this tree
pub record IsValue (names : List (List ℕ)) (text : List ℕ) (t : tree.Tree) : Type 0 where
  pub written : Sum
  pub grammar : sum_tokens written ≡ tokens_in (tokens_of text)
  pub blameless : IsBlameless (value_blame names) [] (tokens_in (tokens_of text))
  pub tree : t ≡ sum_tree names written

abbrev pub IsValueFault : List (List ℕ) → List ℕ → ℕ → TextKind → Type 0
IsValueFault names text at kind =
    IsFirstFault IsValueText (value_blame names) text_kind.BadExpression (length text) [] (tokens_of text) at kind
