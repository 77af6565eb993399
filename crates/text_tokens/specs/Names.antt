-- The names of momenta and invariants. The project's own.
use Rattle.std.specs.Prelude.{ℕ, Bool, IsTrue, ◌&&◌, nat_le, List, length, slice_index}
use Rattle.std.specs.List.{list_all, list_any}
use Rattle.std.specs.Str.{bytes_eq}
use Rattle.text_tokens.specs.Tokens.{is_letter, is_name_byte}

-- 1 to 32 letters, digits and '_', of which the first is a letter
abbrev pub is_name : List ℕ → Bool
is_name bytes =
    nat_le 1 (length bytes) && nat_le (length bytes) 32 && is_letter (slice_index bytes 0) && list_all is_name_byte bytes

abbrev pub IsName : List ℕ → Type 0
IsName bytes = IsTrue (is_name bytes)

-- one of the names has these bytes
abbrev pub is_among : List (List ℕ) → List ℕ → Bool
is_among names bytes = list_any (λ n. bytes_eq n bytes) names
