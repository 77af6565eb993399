-- How a text is cut at its commas.
use Rattle.std.proofs.Common.{◌≡◌, ◌≢◌, ℕ, suc, zero, ◌+◌, ◌-◌, ◌<◌, ◌≤◌, Bool, true, false, not, cond, eqb, List, [], ◌∷◌, length, take, drop, get_or, refl, ap, sym, ◌∙◌, arith}
use Rattle.std.proofs.lemmas.Bool.Decides.{nat_tests}
use Rattle.std.proofs.lemmas.List.{length-drop, take_all, at_drop_more, at_drop_all}
use Rattle.yaml_text.specs.Lines.{Bytes, onto_first}
use Rattle.list_schema.specs.Indices.{pieces, piece_length}

pieces_nil : pieces [] ≡ [] ∷ []
unfolding pieces
pieces_nil = refl

pieces_comma : (b : ℕ) (bs : Bytes) → eqb b 44 ≡ true → pieces (b ∷ bs) ≡ [] ∷ pieces bs
unfolding pieces
pieces_comma b bs h = rw h refl

pieces_byte : (b : ℕ) (bs : Bytes) → eqb b 44 ≡ false → pieces (b ∷ bs) ≡ onto_first b (pieces bs)
unfolding pieces
pieces_byte b bs h = rw h refl

comma_first : (t : Bool) (n : ℕ) → 0 ≡ cond (not t) (1 + n) 0 → t ≡ true
comma_first true n h = refl
comma_first false n h = absurd (omega arith)

comma_later : (t : Bool) (m n : ℕ) → suc m ≡ cond (not t) (1 + n) 0 → t ≡ false
comma_later true m n h = absurd (omega arith)
comma_later false m n h = refl

one_less : (t : Bool) (m n : ℕ) → suc m ≡ cond (not t) (1 + n) 0 → m ≡ n
one_less true m n h = absurd (omega arith)
one_less false m n h = omega arith

onto_first_of : (b : ℕ) (piece : Bytes) (rest all : List Bytes) → all ≡ piece ∷ rest → onto_first b all ≡ (b ∷ piece) ∷ rest
onto_first_of b piece rest all e = rw e refl

-- the first piece of a text whose first comma stands behind n bytes
first : (bs : Bytes) (n : ℕ) → n < length bs → n ≡ piece_length bs → pieces bs ≡ take n bs ∷ pieces (drop (suc n) bs)
first [] n h is = absurd (omega arith)
first (b ∷ bs) zero h is = pieces_comma b bs (comma_first (eqb b 44) (piece_length bs) is)
first (b ∷ bs) (suc m) h is =
    pieces_byte b bs (comma_later (eqb b 44) m (piece_length bs) is)
    ∙ onto_first_of b _ _ _ (first bs m (omega arith) (one_less (eqb b 44) m (piece_length bs) is))

pub first_of_more : (bs piece behind : Bytes) (n : ℕ) → n < length bs → n ≡ piece_length bs → piece ≡ take n bs → behind ≡ drop (n + 1) bs
    → pieces bs ≡ piece ∷ pieces behind
first_of_more bs piece behind n within is here there =
    let next : suc n ≡ n + 1 = omega arith in
    first bs n within is ∙ ap (λ p. p ∷ pieces (drop (suc n) bs)) (sym here)
    ∙ ap (λ k. piece ∷ pieces (drop k bs)) next ∙ ap (λ t. piece ∷ pieces t) (sym there)

-- a text without a comma is one piece
pub only : (bs : Bytes) → length bs ≡ piece_length bs → pieces bs ≡ bs ∷ []
only [] is = pieces_nil
only (b ∷ bs) is =
    pieces_byte b bs (comma_later (eqb b 44) (length bs) (piece_length bs) is)
    ∙ onto_first_of b _ _ _ (only bs (one_less (eqb b 44) (length bs) (piece_length bs) is))

-- what a slice from a place on is
pub rest_of : (n : ℕ) (bs : Bytes) → take (length bs - n) (drop n bs) ≡ drop n bs
rest_of n bs = take_all (length bs - n) (drop n bs) (simp length-drop (omega arith))

-- ---- how many pieces there are

some : (b : ℕ) (all : List Bytes) → 1 ≤ length all → length (onto_first b all) ≡ length all
some b [] h = absurd (omega arith)
some b (p ∷ ps) h = refl

split_at : (t : Bool) (b : ℕ) (all : List Bytes) → 1 ≤ length (cond t ([] ∷ all) (onto_first b all))
split_at true b all = omega arith
split_at false b [] = omega arith
split_at false b (p ∷ ps) = omega arith

pub at_least_one : (bs : Bytes) → 1 ≤ length (pieces bs)
unfolding pieces
at_least_one [] = omega arith
at_least_one (b ∷ bs) = split_at (eqb b 44) b (pieces bs)

pub count_comma : (z : Bytes) (i : ℕ) → i < length z → get_or z i 0 ≡ 44 → length (pieces (drop i z)) ≡ suc (length (pieces (drop (i + 1) z)))
count_comma z i within h =
    let comma : eqb (get_or z i 0) 44 ≡ true = rw h refl in
    at_drop_more (λ bs. length (pieces bs)) z i 0 within ∙ ap length (pieces_comma (get_or z i 0) (drop (i + 1) z) comma)

pub count_byte : (z : Bytes) (i : ℕ) → i < length z → get_or z i 0 ≢ 44 → length (pieces (drop i z)) ≡ length (pieces (drop (i + 1) z))
count_byte z i within h =
    let other : eqb (get_or z i 0) 44 ≡ false = grind (arith, nat_tests) in
    at_drop_more (λ bs. length (pieces bs)) z i 0 within ∙ ap length (pieces_byte (get_or z i 0) (drop (i + 1) z) other)
    ∙ some (get_or z i 0) (pieces (drop (i + 1) z)) (at_least_one (drop (i + 1) z))

pub count_end : (z : Bytes) (i : ℕ) → length z ≤ i → length (pieces (drop i z)) ≡ 1
count_end z i past = at_drop_all (λ bs. length (pieces bs)) z i past ∙ ap length pieces_nil
