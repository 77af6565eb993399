-- The lines of a text, and the faults of a line by itself. The project's own profile of YAML 1.2
-- (yaml.org/spec/1.2.2). A text is the list of its bytes: 9 is a tab, 10 LF, 13 CR, 32 a space, 34 a
-- double quote, 35 `#`, 39 a single quote, 45 `-`, 46 `.`, 92 a backslash.
use Rattle.std.specs.Prelude.{ℕ, suc, ◌+◌, ◌%◌, Bool, true, false, not, ◌&&◌, ◌||◌, if◌then◌else◌, ◌==◌, nat_lt, List, [], ◌∷◌, ◌++◌, drop, count_by, Option, Some, None, Result, Ok, Err, refl}
use Rattle.std.specs.List.{list_any, prefix_len}
use Rattle.std.specs.Coded.{Coded, code_by, coded×, coded_ℕ, coded_list}
use Rattle.yaml_text.specs.declared.fault.YamlKind.{YamlKind}
use Rattle.yaml_text.specs.declared.fault.YamlKind.TheVariants.{Tab, NotAscii, Quote, Document}
use Rattle.yaml_text.specs.Outcomes.{Outcome, refuse, ◌>>=◌}

abbrev pub Bytes : Type 0
Bytes = List ℕ

abbrev pub is_empty : Bytes → Bool
is_empty [] = true
is_empty (b ∷ bs) = false

-- its first byte is this one
abbrev pub begins : ℕ → Bytes → Bool
begins c [] = false
begins c (b ∷ bs) = b == c

-- how many spaces it begins with, and what stands behind them
abbrev pub spaces : Bytes → ℕ
spaces = prefix_len (λ b. b == 32)

abbrev pub skip : Bytes → Bytes
skip bs = drop (spaces bs) bs

-- ---- cutting

abbrev pub onto_first : ℕ → List Bytes → List Bytes
onto_first b [] = (b ∷ []) ∷ []
onto_first b (line ∷ lines) = (b ∷ line) ∷ lines

-- Cut at each LF. A CR right before an LF is dropped. What stands behind the last LF is a line if it
-- has a byte.
unfoldable pub cut : Bytes → List Bytes
cut [] = []
cut (b ∷ bs) = if b == 10 then [] ∷ cut bs else (if b == 13 && begins 10 bs then cut bs else onto_first b (cut bs))

-- ---- comments and trailing spaces

-- A comment begins at a `#` that is the first byte of the line or follows a space, where no double
-- quote is open.
abbrev pub begins_comment : Bool → Bool → ℕ → Bool
begins_comment quoted fresh b = b == 35 && fresh && not quoted

abbrev pub quoted_after : Bool → ℕ → Bool
quoted_after quoted b = if b == 34 then not quoted else quoted

-- What stands before the comment. The two tests say whether a quote is open here, and whether this is
-- the beginning or behind a space.
unfoldable pub before_comment : Bool → Bool → Bytes → Bytes
before_comment quoted fresh [] = []
before_comment quoted fresh (b ∷ bs) =
    if begins_comment quoted fresh b then [] else b ∷ before_comment (quoted_after quoted b) (b == 32) bs

-- without the spaces at its end
unfoldable pub trim_end : Bytes → Bytes
trim_end [] = []
trim_end (b ∷ bs) = if b == 32 && is_empty (trim_end bs) then [] else b ∷ trim_end bs

-- a line without its comment and its trailing spaces
abbrev pub bare : Bytes → Bytes
bare raw = trim_end (before_comment false true raw)

-- ---- the faults of a line, in their order, on the line without its comment

abbrev pub has_tab : Bytes → Bool
has_tab = list_any (λ b. b == 9)

-- a byte that is no printable ASCII
abbrev pub has_other : Bytes → Bool
has_other = list_any (λ b. nat_lt b 32 || nat_lt 126 b)

-- a single quote or a backslash
abbrev pub has_escape : Bytes → Bool
has_escape = list_any (λ b. b == 39 || b == 92)

-- a double quote that isn't closed: their number is odd
abbrev pub has_open_quote : Bytes → Bool
has_open_quote bs = count_by (λ b. b == 34) bs % 2 == 1

abbrev pub has_quote : Bytes → Bool
has_quote bs = has_escape bs || has_open_quote bs

-- no indentation, and then three times this byte
abbrev pub begins_thrice : ℕ → Bytes → Bool
begins_thrice c bs = begins c bs && begins c (drop 1 bs) && begins c (drop 2 bs)

-- a mark of documents, `---` or `...`
abbrev pub is_mark : Bytes → Bool
is_mark bs = begins_thrice 45 bs || begins_thrice 46 bs

unfoldable pub fault_of : Bytes → Option YamlKind
fault_of bs =
    if has_tab bs then Some Tab
    else (if has_other bs then Some NotAscii
    else (if has_quote bs then Some Quote
    else (if is_mark bs then Some Document else None)))

-- ---- the lines that the structure is read from

-- a line with its number from 1, its indentation, and its text
pub record Line : Type 0 where
  pub number : ℕ
  pub indent : ℕ
  pub text : Bytes

abbrev pub line_code : Coded Line
line_code = code_by (ℕ × (ℕ × Bytes)) (coded× coded_ℕ (coded× coded_ℕ (coded_list coded_ℕ)))
    (λ l. (l.number, (l.indent, l.text))) (λ p. record { number = p.0; indent = p.1.0; text = p.1.1 }) (λ _. refl)

unfoldable pub line_at : ℕ → Bytes → Line
line_at number bs = record { number = number; indent = spaces bs; text = skip bs }

-- one more line of this number, which counts only if it has a byte
unfoldable pub kept : ℕ → Bytes → List Line → List Line
kept number bs found = if is_empty bs then found else found ++ line_at number bs ∷ []

abbrev pub judged : ℕ → Option YamlKind → List Line → Outcome (List Line)
judged number None found = Ok found
judged number (Some kind) found = refuse number kind

-- The lines behind those that were found: each without its comment, or the first fault of one.
unfoldable pub lines_from : ℕ → List Line → List Bytes → Outcome (List Line)
lines_from number found [] = Ok found
lines_from number found (raw ∷ raws) =
    judged number (fault_of (bare raw)) (kept number (bare raw) found) >>= (λ more. lines_from (number + 1) more raws)

-- the lines of a text, or the first fault of a line
unfoldable pub lines : Bytes → Outcome (List Line)
lines bytes = lines_from 1 [] (cut bytes)

-- ---- words of the functions that cut the lines

-- how many bytes stand before the first LF
abbrev pub line_length : Bytes → ℕ
line_length = prefix_len (λ b. not (b == 10))

-- the length without a CR at the end
abbrev pub before_return : Bytes → ℕ
before_return [] = 0
before_return (b ∷ bs) = if b == 13 && is_empty bs then 0 else suc (before_return bs)

-- an answer without a value, with the lines that were found by then
abbrev pub with : {E : Type 0} → Result (Unit {0}) E → List Line → Result (List Line) E
with (Ok done) found = Ok found
with (Err e) found = Err e
