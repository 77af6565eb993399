-- The pieces of a text on one line: marks, keys and scalars. The project's own profile of YAML 1.2.
-- 33 `!`, 34 a double quote, 37 `%`, 38 `&`, 42 `*`, 44 a comma, 45 `-`, 58 a colon, 60 `<`, 62 `>`,
-- 63 `?`, 64 `@`, 91 `[`, 93 `]`, 96 a back quote, 123 `{`, 124 a vertical bar, 125 `}`.
use Rattle.std.specs.Prelude.{ℕ, suc, Bool, true, false, not, ◌&&◌, ◌||◌, if◌then◌else◌, ◌==◌, [], ◌∷◌, refl}
use Rattle.std.specs.List.{prefix_len}
use Rattle.std.specs.Coded.{Coded, code_by, coded×, coded_ℕ, coded_list, coded_bool}
use Rattle.yaml_text.specs.Lines.{Bytes}

-- the text of a key or a scalar, and whether it stands there without quotes
pub record Words : Type 0 where
  pub plain : Bool
  pub text : Bytes

abbrev pub words_code : Coded Words
words_code = code_by (Bool × Bytes) (coded× coded_bool (coded_list coded_ℕ)) (λ w. (w.plain, w.text)) (λ p. record { plain = p.0; text = p.1 }) (λ _. refl)

-- ---- what a plain text may hold

-- a byte that no plain text holds
abbrev pub is_special : ℕ → Bool
is_special b = b == 44 || b == 91 || b == 93 || b == 123 || b == 125 || b == 34

-- nothing or a space follows
abbrev pub ends_here : Bytes → Bool
ends_here [] = true
ends_here (b ∷ bs) = b == 32

-- a colon at the end or before a space: it ends a key
abbrev pub is_colon : Bytes → Bool
is_colon [] = false
is_colon (b ∷ bs) = b == 58 && ends_here bs

-- a plain text doesn't go on with these bytes
abbrev pub stops_plain : Bytes → Bool
stops_plain [] = true
stops_plain (b ∷ bs) = is_special b || is_colon (b ∷ bs)

-- how many bytes stand before the first that no plain text holds, or before the colon of a key
unfoldable pub plain_length : Bytes → ℕ
plain_length [] = 0
plain_length (b ∷ bs) = if stops_plain (b ∷ bs) then 0 else suc (plain_length bs)

-- some byte, and no colon at the end
abbrev pub is_whole : Bytes → Bool
is_whole [] = false
is_whole (b ∷ []) = not (b == 58)
is_whole (b ∷ c ∷ bs) = is_whole (c ∷ bs)

-- how many bytes stand before the next double quote
abbrev pub quoted_length : Bytes → ℕ
quoted_length = prefix_len (λ b. not (b == 34))
