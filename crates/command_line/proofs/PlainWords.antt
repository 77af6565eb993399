-- What the command makes of words without options, and of `--`.
use Rattle.std.proofs.Common.{◌≡◌, ◌∙◌, ◌++◌, ◌==◌, ◌&&◌, ◌+◌, ℕ, Bool, true, false, List, [], ◌∷◌, length, Some, None, refl, sym, ap, ap₂, subst, arith, codes}
use Rattle.std.specs.Prelude.{fold, if◌then◌else◌, is_some, nat_lt}
use Rattle.std.proofs.lemmas.List.{append-nil, append_assoc}
use Rattle.std.proofs.lemmas.Bool.{eqb-true, le-ltb, ne_eqb}
use Rattle.std.specs.Str.{bytes_eq}
use Rattle.clap.specs.Lexer.{long_of, short_of, usize_max}
use Rattle.clap.specs.Walk.{finished, settled, Text, Walk, nothing_held, positional, walk, walk_from, walked}
use Rattle.clap.specs.Simple.{Shape, built, entered}
use Rattle.clap.specs.Faults.{check_fault, defaults_fault, entered_fault, settle_fault, turn_fault, walk_fault}
use Rattle.clap.specs.Kinds.{Kinds, or_else, values_kinds}
use Rattle.clap.specs.declared.builder.value_parser.ValueParser.TheVariants as vp
use Rattle.clap.proofs.OnLiterals.{clap_on_literals}
use Rattle.command_line.specs.Command.{command, faults_at, rows_at}
use Rattle.command_line.specs.Places.{is_option, places_from}
use Rattle.command_line.specs.Request.{given_of, positionals}
use Rattle.command_line.specs.Laws.{IsNoOption, AreNoOptions, DashesEndOptions, PlainWordsStand, none_given, numbered}

abbrev top : Shape
top = (built command).top

-- where the walk stands behind some words without options
abbrev behind : List Text → Walk
behind words = record { held = record { rows = []; pending = Some (codes "words", words); skip = 0 }; waiting = positional; position = 1; is_trailing = false; stopped = None }

no_long : (word : Text) → IsNoOption word → long_of word ≡ None
no_long word is = rw is refl

no_short : (word : Text) → IsNoOption word → short_of word ≡ None
no_short word is = rw is refl

no_dashes : (word : Text) → IsNoOption word → bytes_eq word (45 ∷ 45 ∷ []) ≡ false
no_dashes [] is = refl
no_dashes (x ∷ xs) is = go (x == 45) is
  where
    go : (b : Bool) → (if b then Some xs else None) ≡ None → (b && bytes_eq xs (45 ∷ [])) ≡ false
    go true h = cc
    go false h = refl

first_step : (word : Text) → IsNoOption word → walked top.rules [] (walk_from nothing_held) word ≡ behind (word ∷ [])
unfolding clap_on_literals
first_step word is = rw (no_dashes word is, no_long word is, no_short word is) refl

next_step : (words : List Text) (word : Text) → IsNoOption word → walked top.rules [] (behind words) word ≡ behind (words ++ word ∷ [])
unfolding clap_on_literals
next_step words word is = rw (no_dashes word is, no_long word is, no_short word is) refl

first_turn : (word : Text) → IsNoOption word → turn_fault top [] (walk_from nothing_held) word ≡ []
unfolding clap_on_literals
first_turn word is = rw (no_dashes word is, no_long word is, no_short word is) refl

next_turn : (words : List Text) (word : Text) → IsNoOption word → turn_fault top [] (behind words) word ≡ []
unfolding clap_on_literals
next_turn words word is = rw (no_dashes word is, no_long word is, no_short word is) refl

any_text : (values : List Text) → values_kinds false vp.String values ≡ []
any_text [] = refl
any_text (value ∷ values) = any_text values

-- ---- all words

all_walked : (words more : List Text) → AreNoOptions more → fold (walked top.rules []) (behind words) more ≡ behind (words ++ more)
all_walked words [] none = ap behind (sym (append-nil words))
all_walked words (word ∷ rest) none =
    ap (λ (w : Walk). fold (walked top.rules []) w rest) (next_step words word none.0) ∙ all_walked (words ++ word ∷ []) rest none.1
    ∙ ap behind (append_assoc words (word ∷ []) rest)

whole_walk : (word : Text) (rest : List Text) → AreNoOptions (word ∷ rest) → walk top.rules [] nothing_held (word ∷ rest) ≡ behind (word ∷ rest)
whole_walk word rest none =
    ap (λ (w : Walk). fold (walked top.rules []) w rest) (first_step word none.0) ∙ all_walked (word ∷ []) rest none.1

one_more : (w : Walk) (word : Text) (rest : List Text) → walk_fault top [] w (word ∷ rest) ≡ or_else (turn_fault top [] w word) (walk_fault top [] (walked top.rules [] w word) rest)
unfolding walk_fault
one_more w word rest = refl

no_more : (w : Walk) → walk_fault top [] w [] ≡ []
unfolding walk_fault
no_more w = refl

none_refused : (words more : List Text) → AreNoOptions more → walk_fault top [] (behind words) more ≡ []
none_refused words [] none = no_more (behind words)
none_refused words (word ∷ rest) none =
    one_more (behind words) word rest
    ∙ ap₂ or_else (next_turn words word none.0) (ap (λ (w : Walk). walk_fault top [] w rest) (next_step words word none.0))
    ∙ none_refused (words ++ word ∷ []) rest none.1

whole_taken : (word : Text) (rest : List Text) → AreNoOptions (word ∷ rest) → walk_fault top [] (walk_from nothing_held) (word ∷ rest) ≡ []
whole_taken word rest none =
    one_more (walk_from nothing_held) word rest
    ∙ ap₂ or_else (first_turn word none.0) (ap (λ (w : Walk). walk_fault top [] w rest) (first_step word none.0))
    ∙ none_refused (word ∷ []) rest none.1

-- ---- behind the words

-- the kinds of error of the whole, from those of the words and from where the walk ends
abbrev kinds_of : Kinds → Walk → Kinds
kinds_of met end =
    or_else met
    (or_else (entered_fault (built command) end.stopped) (or_else (settle_fault top.rules false end.held)
    (or_else (defaults_fault (settled top.rules end.held).rows top.rules)
    (check_fault top (finished top.rules end.held) (is_some (entered (built command) end.stopped))))))

faults_are : (words : List Text) → faults_at words ≡ kinds_of (walk_fault top [] (walk_from nothing_held) words) (walk top.rules [] nothing_held words)
unfolding faults_at
faults_are words = refl

rows_are : (words : List Text) → rows_at words ≡ finished top.rules (walk top.rules [] nothing_held words).held
unfolding rows_at
rows_are words = refl

none_at_the_end : (word : Text) (rest : List Text) → (length (word ∷ rest) == 0) ≡ false → nat_lt (length (word ∷ rest)) 1 ≡ false → nat_lt usize_max (length (word ∷ rest)) ≡ false → kinds_of [] (behind (word ∷ rest)) ≡ []
unfolding clap_on_literals
none_at_the_end word rest some low high = rw (any_text rest, some, low, high) refl

texts_at_the_end : (word : Text) (rest : List Text) → positionals (finished top.rules (behind (word ∷ rest)).held) ≡ word ∷ rest
unfolding clap_on_literals
texts_at_the_end word rest = refl

given_at_the_end : (word : Text) (rest : List Text) → given_of (finished top.rules (behind (word ∷ rest)).held) ≡ none_given
unfolding clap_on_literals
given_at_the_end word rest = refl

-- ---- places

no_option : (word : Text) → IsNoOption word → is_option word ≡ false
no_option [] is = refl
no_option (x ∷ xs) is = go (45 == x) refl is
  where
    go : (b : Bool) → (45 == x) ≡ b → (if x == 45 then Some xs else None) ≡ None → is_option (x ∷ xs) ≡ false
    go true e h =
        let same : 45 ≡ x = eqb-true 45 x e in
        let bad : Some xs ≡ None = subst (λ (y : ℕ). (if y == 45 then Some xs else None) ≡ None) (sym same) h in
        cc
    go false e h = rw e refl

stand_in_turn : (place : ℕ) (words : List Text) → AreNoOptions words → places_from place false false words ≡ numbered place words
stand_in_turn place [] none = refl
stand_in_turn place (word ∷ rest) none =
    rw (no_dashes word none.0, no_option word none.0) (ap (λ (ps : List ℕ). place ∷ ps) (stand_in_turn (place + 1) rest none.1))

pub plain_words_stand : PlainWordsStand
plain_words_stand word rest none few =
    let walked_all = whole_walk word rest none in
    let rows = rows_are (word ∷ rest) ∙ ap (λ (w : Walk). finished top.rules w.held) walked_all in (
      faults_are (word ∷ rest) ∙ ap₂ kinds_of (whole_taken word rest none) walked_all
          ∙ none_at_the_end word rest (ne_eqb _ _ (λ e. omega (arith, e))) (le-ltb _ _ (omega arith)) (le-ltb _ _ (omega arith)),
      ap positionals rows ∙ texts_at_the_end word rest,
      ap given_of rows ∙ given_at_the_end word rest,
      stand_in_turn 1 (word ∷ rest) none,
    )

pub dashes_end_options : DashesEndOptions
unfolding clap_on_literals faults_at rows_at
dashes_end_options = (refl, refl, refl, refl)
