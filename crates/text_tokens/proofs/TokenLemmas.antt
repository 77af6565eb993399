-- How the tokens of a text go on, byte by byte.
use Rattle.std.proofs.Common.{◌≡◌, ℕ, ◌+◌, ◌<◌, ◌≤◌, Bool, true, false, List, [], ◌∷◌, ◌++◌, length, drop, take, get_or, ◌-◌, inl, inr, arith, refl, sym, ap, subst, ◌∙◌, eqb, cond}
use Rattle.std.specs.Prelude.{slice_range}
use Rattle.std.proofs.lemmas.List.{drop_more, drop_all}
use Rattle.std.proofs.lemmas.Bool.{cases_lt, cases_Bool, ne_eqb}
use Rattle.std.proofs.lemmas.Bool.Decides.{nat_tests}
use Rattle.std.proofs.lemmas.List.Edits.{between_more}
use Rattle.text_tokens.specs.declared.tokens.Kind.{Kind}
use Rattle.text_tokens.specs.declared.tokens.Kind.TheVariants as kind
use Rattle.text_tokens.specs.Pieces.{token_of, placed_piece, kind_of_byte}
use Rattle.text_tokens.specs.Tokens.{number, name, plus, minus, star, slash, caret, opening, closing, other, mark_at, is_digit, is_letter, is_name_byte, nothing, in_number, in_name, tokens_from}

-- the run of one byte
pub run_of_1 : (s : List ℕ) (i : ℕ) → i < length s → slice_range s i (i + 1) ≡ get_or s i 0 ∷ []
run_of_1 s i h =
    let none : i - i ≡ 0 = omega arith in
    let same : slice_range s i i ≡ [] = ap (λ n. take n (drop i s)) none in
    between_more s i i 0 (omega arith) h ∙ ap (λ r. r ++ get_or s i 0 ∷ []) same

pub space_more : (i b : ℕ) (bs : List ℕ) → b ≡ 32 → tokens_from nothing i (b ∷ bs) ≡ tokens_from nothing (i + 1) bs
unfolding tokens_from
space_more i b bs h =
    let P : ℕ → Type 0 = λ c. tokens_from nothing i (c ∷ bs) ≡ tokens_from nothing (i + 1) bs in
    subst P (sym h) refl

pub number_begins : (i b : ℕ) (bs : List ℕ) → is_digit b ≡ true → tokens_from nothing i (b ∷ bs) ≡ tokens_from (in_number i (b ∷ [])) (i + 1) bs
unfolding tokens_from
number_begins i b bs h = rw h refl

pub number_more : (start i b : ℕ) (ds bs : List ℕ) → is_digit b ≡ true → tokens_from (in_number start ds) i (b ∷ bs) ≡ tokens_from (in_number start (ds ++ b ∷ [])) (i + 1) bs
unfolding tokens_from
number_more start i b ds bs h = rw h refl

pub number_stops : (start i b : ℕ) (ds bs : List ℕ) → is_digit b ≡ false → tokens_from (in_number start ds) i (b ∷ bs) ≡ record { at = start; token = number ds } ∷ tokens_from nothing i (b ∷ bs)
unfolding tokens_from
number_stops start i b ds bs h = rw h refl

pub number_ends : (start i : ℕ) (ds : List ℕ) → tokens_from (in_number start ds) i [] ≡ record { at = start; token = number ds } ∷ tokens_from nothing i []
unfolding tokens_from
number_ends start i ds = refl

letter_no_digit : (b : ℕ) → is_letter b ≡ true → is_digit b ≡ false
letter_no_digit b h = grind (arith, nat_tests)

pub name_begins : (i b : ℕ) (bs : List ℕ) → is_letter b ≡ true → tokens_from nothing i (b ∷ bs) ≡ tokens_from (in_name i (b ∷ [])) (i + 1) bs
unfolding tokens_from
name_begins i b bs h = rw (letter_no_digit b h, h) refl

pub name_more : (start i b : ℕ) (ds bs : List ℕ) → is_name_byte b ≡ true → tokens_from (in_name start ds) i (b ∷ bs) ≡ tokens_from (in_name start (ds ++ b ∷ [])) (i + 1) bs
unfolding tokens_from
name_more start i b ds bs h = rw h refl

pub name_stops : (start i b : ℕ) (ds bs : List ℕ) → is_name_byte b ≡ false → tokens_from (in_name start ds) i (b ∷ bs) ≡ record { at = start; token = name ds } ∷ tokens_from nothing i (b ∷ bs)
unfolding tokens_from
name_stops start i b ds bs h = rw h refl

pub name_ends : (start i : ℕ) (ds : List ℕ) → tokens_from (in_name start ds) i [] ≡ record { at = start; token = name ds } ∷ tokens_from nothing i []
unfolding tokens_from
name_ends start i ds = refl

pub mark : (i b : ℕ) (bs : List ℕ) → is_digit b ≡ false → is_letter b ≡ false → (b ≡ 32 → ⊥) → tokens_from nothing i (b ∷ bs) ≡ record { at = i; token = mark_at i b } ∷ tokens_from nothing (i + 1) bs
unfolding tokens_from
mark i b bs d l n = rw (d, l, ne_eqb b 32 n) refl

-- The same at an offset of a text.
pub space_at : (s : List ℕ) (i : ℕ) → i < length s → get_or s i 0 ≡ 32 → tokens_from nothing i (drop i s) ≡ tokens_from nothing (i + 1) (drop (i + 1) s)
space_at s i h b = ap (tokens_from nothing i) (drop_more s i 0 h) ∙ space_more i _ _ b

pub number_at : (s : List ℕ) (i : ℕ) → i < length s → is_digit (get_or s i 0) ≡ true →
    tokens_from nothing i (drop i s) ≡ tokens_from (in_number i (slice_range s i (i + 1))) (i + 1) (drop (i + 1) s)
number_at s i h b =
    ap (tokens_from nothing i) (drop_more s i 0 h) ∙ number_begins i _ _ b
    ∙ ap (λ r. tokens_from (in_number i r) (i + 1) (drop (i + 1) s)) (sym (run_of_1 s i h))

pub number_more_at : (s : List ℕ) (start i : ℕ) → start ≤ i → i < length s → is_digit (get_or s i 0) ≡ true →
    tokens_from (in_number start (slice_range s start i)) i (drop i s) ≡ tokens_from (in_number start (slice_range s start (i + 1))) (i + 1) (drop (i + 1) s)
number_more_at s start i le h b =
    ap (tokens_from (in_number start (slice_range s start i)) i) (drop_more s i 0 h) ∙ number_more start i _ _ _ b
    ∙ ap (λ r. tokens_from (in_number start r) (i + 1) (drop (i + 1) s)) (sym (between_more s start i 0 le h))

pub number_stops_at : (s : List ℕ) (start i : ℕ) (ds : List ℕ) → (i < length s → is_digit (get_or s i 0) ≡ false) →
    tokens_from (in_number start ds) i (drop i s) ≡ record { at = start; token = number ds } ∷ tokens_from nothing i (drop i s)
number_stops_at s start i ds b =
    elim (cases_lt i (length s)) [
      | inl h ↦ ap (tokens_from (in_number start ds) i) (drop_more s i 0 h) ∙ number_stops start i _ _ _ (b h)
          ∙ ap (λ r. record { at = start; token = number ds } ∷ tokens_from nothing i r) (sym (drop_more s i 0 h))
      | inr h ↦ ap (tokens_from (in_number start ds) i) (drop_all i s h) ∙ number_ends start i ds
          ∙ ap (λ r. record { at = start; token = number ds } ∷ tokens_from nothing i r) (sym (drop_all i s h))
    ]

pub name_at : (s : List ℕ) (i : ℕ) → i < length s → is_letter (get_or s i 0) ≡ true →
    tokens_from nothing i (drop i s) ≡ tokens_from (in_name i (slice_range s i (i + 1))) (i + 1) (drop (i + 1) s)
name_at s i h b =
    ap (tokens_from nothing i) (drop_more s i 0 h) ∙ name_begins i _ _ b
    ∙ ap (λ r. tokens_from (in_name i r) (i + 1) (drop (i + 1) s)) (sym (run_of_1 s i h))

pub name_more_at : (s : List ℕ) (start i : ℕ) → start ≤ i → i < length s → is_name_byte (get_or s i 0) ≡ true →
    tokens_from (in_name start (slice_range s start i)) i (drop i s) ≡ tokens_from (in_name start (slice_range s start (i + 1))) (i + 1) (drop (i + 1) s)
name_more_at s start i le h b =
    ap (tokens_from (in_name start (slice_range s start i)) i) (drop_more s i 0 h) ∙ name_more start i _ _ _ b
    ∙ ap (λ r. tokens_from (in_name start r) (i + 1) (drop (i + 1) s)) (sym (between_more s start i 0 le h))

pub name_stops_at : (s : List ℕ) (start i : ℕ) (ds : List ℕ) → (i < length s → is_name_byte (get_or s i 0) ≡ false) →
    tokens_from (in_name start ds) i (drop i s) ≡ record { at = start; token = name ds } ∷ tokens_from nothing i (drop i s)
name_stops_at s start i ds b =
    elim (cases_lt i (length s)) [
      | inl h ↦ ap (tokens_from (in_name start ds) i) (drop_more s i 0 h) ∙ name_stops start i _ _ _ (b h)
          ∙ ap (λ r. record { at = start; token = name ds } ∷ tokens_from nothing i r) (sym (drop_more s i 0 h))
      | inr h ↦ ap (tokens_from (in_name start ds) i) (drop_all i s h) ∙ name_ends start i ds
          ∙ ap (λ r. record { at = start; token = name ds } ∷ tokens_from nothing i r) (sym (drop_all i s h))
    ]

pub mark_is_at : (s : List ℕ) (i : ℕ) → i < length s → is_digit (get_or s i 0) ≡ false → is_letter (get_or s i 0) ≡ false → (get_or s i 0 ≡ 32 → ⊥) →
    tokens_from nothing i (drop i s) ≡ record { at = i; token = mark_at i (get_or s i 0) } ∷ tokens_from nothing (i + 1) (drop (i + 1) s)
mark_is_at s i h d l n = ap (tokens_from nothing i) (drop_more s i 0 h) ∙ mark i _ _ d l n

pub no_digit : (b : ℕ) → (kind_of_byte b ≡ kind.Number → ⊥) → is_digit b ≡ false
no_digit b n = elim (cases_Bool (is_digit b)) [ inl t ↦ absurd (n (rw t refl)) | inr f ↦ f ]

pub no_letter : (b : ℕ) → is_digit b ≡ false → (kind_of_byte b ≡ kind.Name → ⊥) → is_letter b ≡ false
no_letter b d n = elim (cases_Bool (is_letter b)) [ inl t ↦ absurd (n (rw (d, t) refl)) | inr f ↦ f ]

-- of the byte that begins neither a number nor a name
pick : (at : ℕ) (bs : List ℕ) (p m s d c o k : Bool) →
    token_of (cond p kind.Plus (cond m kind.Minus (cond s kind.Star (cond d kind.Slash (cond c kind.Caret (cond o kind.Opening (cond k kind.Closing kind.Other))))))) at bs
    ≡ cond p plus (cond m minus (cond s star (cond d (slash at) (cond c caret (cond o opening (cond k closing other))))))
pick at bs true m s d c o k = refl
pick at bs false true s d c o k = refl
pick at bs false false true d c o k = refl
pick at bs false false false true c o k = refl
pick at bs false false false false true o k = refl
pick at bs false false false false false true k = refl
pick at bs false false false false false false true = refl
pick at bs false false false false false false false = refl

pub mark_kind : (at b : ℕ) (bs : List ℕ) → is_digit b ≡ false → is_letter b ≡ false → token_of (kind_of_byte b) at bs ≡ mark_at at b
mark_kind at b bs d l =
    rw (d, l) (pick at bs (eqb b 43) (eqb b 45) (eqb b 42) (eqb b 47) (eqb b 94) (eqb b 40) (eqb b 41))

pub mark_piece : (s : List ℕ) (i : ℕ) (k : Kind) → i < length s → (get_or s i 0 ≡ 32 → ⊥) → k ≡ kind_of_byte (get_or s i 0) → (k ≡ kind.Number → ⊥) → (k ≡ kind.Name → ⊥) →
    tokens_from nothing i (drop i s) ≡ placed_piece s record { at = i; end = i + 1; kind = k } ∷ tokens_from nothing (i + 1) (drop (i + 1) s)
mark_piece s i k h n e d l =
    let digit : is_digit (get_or s i 0) ≡ false = no_digit (get_or s i 0) (λ q. d (e ∙ q)) in
    let letter : is_letter (get_or s i 0) ≡ false = no_letter (get_or s i 0) digit (λ q. l (e ∙ q)) in
    let same : token_of k i (slice_range s i (i + 1)) ≡ mark_at i (get_or s i 0) =
    ap (λ q. token_of q i (slice_range s i (i + 1))) e ∙ mark_kind i (get_or s i 0) (slice_range s i (i + 1)) digit letter in
    mark_is_at s i h digit letter n ∙ ap (λ t. record { at = i; token = t } ∷ tokens_from nothing (i + 1) (drop (i + 1) s)) (sym same)

pub end_of_text : (s : List ℕ) (i : ℕ) → length s ≤ i → tokens_from nothing i (drop i s) ≡ []
unfolding tokens_from
end_of_text s i h = ap (tokens_from nothing i) (drop_all i s h)
