-- At which places among all words, counted from 1, the words stand that are neither an option nor the value of one.
-- The project's own: clap says what these words are, and not where they stand.
use Rattle.std.specs.Prelude.{ℕ, ◌+◌, Bool, true, false, not, ◌&&◌, ◌||◌, nat_lt, nat_eq, if◌then◌else◌, List, [], ◌∷◌, codes, length}
use Rattle.std.specs.List.{starts_with}
use Rattle.std.specs.Str.{bytes_eq}
use Rattle.clap.specs.Lexer.{has_byte}
use Rattle.clap.specs.Walk.{Text}

-- the word is an option where one may stand: a hyphen with something behind it
abbrev pub is_option : Text → Bool
is_option word = starts_with nat_eq word (codes "-") && nat_lt 1 (length word)

-- the value of this option is the next word: it is `-p` without a value, or a long option without `=`
abbrev pub wants_value : Text → Bool
wants_value word = bytes_eq word (codes "-p") || (starts_with nat_eq word (codes "--") && not (has_byte 61 word))

-- The places from this one on. An option may wait for its value, and a `--` may have ended the options.
abbrev pub places_from : ℕ → Bool → Bool → List Text → List ℕ
places_from place waits ended [] = []
places_from place waits true (word ∷ rest) = place ∷ places_from (place + 1) waits true rest
places_from place waits false (word ∷ rest) =
    if bytes_eq word (codes "--") then places_from (place + 1) waits true rest
    else (if is_option word then places_from (place + 1) (wants_value word) false rest
    else (if waits then places_from (place + 1) false false rest
    else place ∷ places_from (place + 1) false false rest))

abbrev pub places : List Text → List ℕ
places words = places_from 1 false false words
