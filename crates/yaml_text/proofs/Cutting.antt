-- How the functions that cut lines meet the definitions.
use Rattle.std.proofs.Common.{◌≡◌, ◌≢◌, ℕ, suc, zero, ◌+◌, ◌-◌, ◌<◌, ◌≤◌, Bool, true, false, not, ◌&&◌, ◌||◌, cond, eqb, ltb, List, [], ◌∷◌, ◌++◌, length, take, drop, get_or, refl, ap, sym, ◌∙◌, arith}
use Rattle.std.proofs.lemmas.Bool.Decides.{nat_tests}
use Rattle.std.proofs.lemmas.Bool.{true≢false}
use Rattle.std.proofs.lemmas.Str.Ascii.{IsAscii-nil, IsAscii-cons}
use Rattle.std.specs.Str.{IsAscii}
use Rattle.std.proofs.lemmas.Grind.{take_at_read}
use Rattle.std.proofs.lemmas.List.{length-take, length-drop, take_all, at_drop_more, take_more, append_assoc, append-nil, drop_all}
use Rattle.yaml_text.specs.Lines.{Bytes, is_empty, begins, begins_comment, quoted_after, onto_first, cut, before_comment, has_other, trim_end, line_length, before_return}

and_false : (a : Bool) → (a && false) ≡ false
and_false true = refl
and_false false = refl

is_empty_push : (xs : Bytes) (b : ℕ) → is_empty (xs ++ b ∷ []) ≡ false
is_empty_push [] b = refl
is_empty_push (x ∷ xs) b = refl

trim_end_space : (xs : Bytes) → trim_end (xs ++ 32 ∷ []) ≡ trim_end xs
unfolding trim_end
trim_end_space [] = refl
trim_end_space (x ∷ xs) = rw (trim_end_space xs) refl

trim_end_byte : (xs : Bytes) (b : ℕ) → eqb b 32 ≡ false → trim_end (xs ++ b ∷ []) ≡ xs ++ b ∷ []
unfolding trim_end
trim_end_byte [] b h = rw h refl
trim_end_byte (x ∷ xs) b h = rw (trim_end_byte xs b h, is_empty_push xs b, and_false (eqb x 32)) refl

pub trim_end_less : (z : Bytes) (e : ℕ) → 0 < e → e ≤ length z → get_or z (e - 1) 0 ≡ 32 → trim_end (take (e - 1) z) ≡ trim_end (take e z)
trim_end_less z e some within h =
    let one : e ≡ (e - 1) + 1 = omega arith in
    let split : take e z ≡ take (e - 1) z ++ 32 ∷ [] = ap (λ n. take n z) one ∙ (take_at_read z (e - 1) 0 (omega arith)).1 ∙ ap (λ b. take (e - 1) z ++ b ∷ []) h in
    sym (ap trim_end split ∙ trim_end_space (take (e - 1) z))

pub trim_end_stops : (z : Bytes) (e : ℕ) → 0 < e → e ≤ length z → get_or z (e - 1) 0 ≢ 32 → trim_end (take e z) ≡ take e z
trim_end_stops z e some within h =
    let one : e ≡ (e - 1) + 1 = omega arith in
    let split : take e z ≡ take (e - 1) z ++ get_or z (e - 1) 0 ∷ [] = ap (λ n. take n z) one ∙ (take_at_read z (e - 1) 0 (omega arith)).1 in
    let other : eqb (get_or z (e - 1) 0) 32 ≡ false = grind (arith, nat_tests) in
    ap trim_end split ∙ trim_end_byte (take (e - 1) z) (get_or z (e - 1) 0) other ∙ sym split

pub trim_end_nil : trim_end [] ≡ []
unfolding trim_end
trim_end_nil = refl

before_comment_stops : (quoted fresh : Bool) (z : Bytes) (i : ℕ) → i < length z → begins_comment quoted fresh (get_or z i 0) ≡ true
    → before_comment quoted fresh (drop i z) ≡ []
unfolding before_comment
before_comment_stops quoted fresh z i within h = at_drop_more (before_comment quoted fresh) z i 0 within ∙ rw h refl

before_comment_goes : (quoted fresh : Bool) (z : Bytes) (i : ℕ) → i < length z → begins_comment quoted fresh (get_or z i 0) ≡ false
    → before_comment quoted fresh (drop i z) ≡ get_or z i 0 ∷ before_comment (quoted_after quoted (get_or z i 0)) (eqb (get_or z i 0) 32) (drop (i + 1) z)
unfolding before_comment
before_comment_goes quoted fresh z i within h = at_drop_more (before_comment quoted fresh) z i 0 within ∙ rw h refl

-- the part before the place, where the comment begins there
pub comment_here : (quoted fresh : Bool) (z all : Bytes) (i : ℕ) → i < length z → begins_comment quoted fresh (get_or z i 0) ≡ true
    → take i z ++ before_comment quoted fresh (drop i z) ≡ all → take i z ≡ all
comment_here quoted fresh z all i within h so_far = sym (ap (λ bs. take i z ++ bs) (before_comment_stops quoted fresh z i within h) ∙ append-nil (take i z)) ∙ so_far

pub comment_later : (quoted fresh : Bool) (z all : Bytes) (i : ℕ) → i < length z → begins_comment quoted fresh (get_or z i 0) ≡ false
    → take i z ++ before_comment quoted fresh (drop i z) ≡ all
    → take (i + 1) z ++ before_comment (quoted_after quoted (get_or z i 0)) (eqb (get_or z i 0) 32) (drop (i + 1) z) ≡ all
comment_later quoted fresh z all i within h so_far =
    let rest : Bytes = before_comment (quoted_after quoted (get_or z i 0)) (eqb (get_or z i 0) 32) (drop (i + 1) z) in
    ap (λ bs. bs ++ rest) (take_more z i 0 within) ∙ append_assoc (take i z) (get_or z i 0 ∷ []) rest
    ∙ sym (ap (λ bs. take i z ++ bs) (before_comment_goes quoted fresh z i within h)) ∙ so_far

pub comment_none : (quoted fresh : Bool) (z all : Bytes) (i : ℕ) → length z ≤ i → take i z ++ before_comment quoted fresh (drop i z) ≡ all → take i z ≡ all
unfolding before_comment
comment_none quoted fresh z all i past so_far =
    sym (ap (λ bs. take i z ++ before_comment quoted fresh bs) (drop_all i z past) ∙ append-nil (take i z)) ∙ so_far

and_true : (a : Bool) → (a && true) ≡ a
and_true true = refl
and_true false = refl

suc_cond : (t : Bool) (n : ℕ) → suc (cond t n (n + 1)) ≡ cond t (suc n) (suc n + 1)
suc_cond true n = refl
suc_cond false n = omega arith

before_return_push : (xs : Bytes) (b : ℕ) → before_return (xs ++ b ∷ []) ≡ cond (eqb b 13) (length xs) (length xs + 1)
before_return_push [] b = ap (λ t. cond t 0 1) (and_true (eqb b 13))
before_return_push (x ∷ xs) b = rw (is_empty_push xs b, and_false (eqb x 13), before_return_push xs b) (suc_cond (eqb b 13) (length xs))

before_return_at : (z : Bytes) (e : ℕ) → 0 < e → e ≤ length z → before_return (take e z) ≡ cond (eqb (get_or z (e - 1) 0) 13) (e - 1) e
before_return_at z e some within =
    let one : e ≡ (e - 1) + 1 = omega arith in
    let split : take e z ≡ take (e - 1) z ++ get_or z (e - 1) 0 ∷ [] = ap (λ n. take n z) one ∙ take_more z (e - 1) 0 (omega arith) in
    let len : length (take (e - 1) z) ≡ e - 1 = omega (arith, length-take {A = ℕ}) in
    let back : length (take (e - 1) z) + 1 ≡ e = omega arith in
    ap before_return split ∙ before_return_push (take (e - 1) z) (get_or z (e - 1) 0)
    ∙ ap (λ n. cond (eqb (get_or z (e - 1) 0) 13) n (length (take (e - 1) z) + 1)) len
    ∙ ap (λ n. cond (eqb (get_or z (e - 1) 0) 13) (e - 1) n) back

pub return_there : (z : Bytes) (e : ℕ) → 0 < e → e ≤ length z → get_or z (e - 1) 0 ≡ 13 → e - 1 ≡ before_return (take e z)
return_there z e some within h = let at = before_return_at z e some within in grind (arith, nat_tests)

pub return_missing : (z : Bytes) (e : ℕ) → 0 < e → e ≤ length z → get_or z (e - 1) 0 ≢ 13 → e ≡ before_return (take e z)
return_missing z e some within h = let at = before_return_at z e some within in grind (arith, nat_tests)

cut_lf : (bs : Bytes) → cut (10 ∷ bs) ≡ [] ∷ cut bs
unfolding cut
cut_lf bs = refl

cut_nil : cut [] ≡ []
unfolding cut
cut_nil = refl

cut_cr : (b : ℕ) (bs : Bytes) → eqb b 10 ≡ false → (eqb b 13 && begins 10 bs) ≡ true → cut (b ∷ bs) ≡ cut bs
unfolding cut
cut_cr b bs h r = rw (h, r) refl

cut_byte : (b : ℕ) (bs : Bytes) → eqb b 10 ≡ false → (eqb b 13 && begins 10 bs) ≡ false → cut (b ∷ bs) ≡ onto_first b (cut bs)
unfolding cut
cut_byte b bs h r = rw (h, r) refl

-- the first line of a text whose first LF stands behind n bytes
abbrev pub CutsAt : Bytes → ℕ → Type 0
CutsAt bs n = cut bs ≡ take (before_return (take n bs)) bs ∷ cut (drop (suc n) bs)

lf_first : (t : Bool) (n : ℕ) → 0 ≡ cond (not t) (1 + n) 0 → t ≡ true
lf_first true n h = refl
lf_first false n h = absurd (omega arith)

lf_later : (t : Bool) (m n : ℕ) → suc m ≡ cond (not t) (1 + n) 0 → t ≡ false
lf_later true m n h = absurd (omega arith)
lf_later false m n h = refl

lf_one_less : (t : Bool) (m n : ℕ) → suc m ≡ cond (not t) (1 + n) 0 → m ≡ n
lf_one_less true m n h = absurd (omega arith)
lf_one_less false m n h = omega arith

onto_first_of : (b : ℕ) (line : Bytes) (lines all : List Bytes) → all ≡ line ∷ lines → onto_first b all ≡ (b ∷ line) ∷ lines
onto_first_of b line lines all e = rw e refl

cut_step : (b : ℕ) (bs : Bytes) (n : ℕ) → n < length bs → n ≡ line_length bs → eqb b 10 ≡ false → CutsAt bs n → CutsAt (b ∷ bs) (suc n)
cut_step b [] n within is other rest = absurd (omega arith)
cut_step b (x ∷ bs) zero within is other rest =
    let at_lf = lf_first (eqb x 10) (line_length bs) is in
    let P : Bool → Type 0 = λ t. eqb b 13 ≡ t → cut (b ∷ x ∷ bs) ≡ take (cond (t && true) 0 1) (b ∷ x ∷ bs) ∷ cut (drop 1 (x ∷ bs)) in
    elim (eqb b 13) as P [
      | true ↦ λ e. cut_cr b (x ∷ bs) other (rw (e, at_lf) refl) ∙ rest
      | false ↦ λ e. cut_byte b (x ∷ bs) other (rw e refl) ∙ onto_first_of b [] (cut (drop 1 (x ∷ bs))) _ rest
    ]
    refl
cut_step b (x ∷ bs) (suc m) within is other rest =
    let at_other = lf_later (eqb x 10) m (line_length bs) is in
    let none : (eqb b 13 && eqb x 10) ≡ false = rw (at_other, and_false (eqb b 13)) refl in
    cut_byte b (x ∷ bs) other none ∙ onto_first_of b _ _ _ rest
    ∙ ap (λ t. take (cond t 0 (suc (before_return (take (suc m) (x ∷ bs))))) (b ∷ x ∷ bs) ∷ cut (drop (suc m) bs)) (sym (and_false (eqb b 13)))

pub cut_first : (bs : Bytes) (n : ℕ) → n < length bs → n ≡ line_length bs → CutsAt bs n
cut_first [] n h is = absurd (omega arith)
cut_first (b ∷ bs) zero h is =
    let e : b ≡ 10 = let at_lf = lf_first (eqb b 10) (line_length bs) is in grind (arith, nat_tests) in
    ap (λ x. cut (x ∷ bs)) e ∙ cut_lf bs
cut_first (b ∷ bs) (suc m) h is =
    let less : m < length bs = omega arith in
    let same : m ≡ line_length bs = lf_one_less (eqb b 10) m (line_length bs) is in
    cut_step b bs m less same (lf_later (eqb b 10) m (line_length bs) is) (cut_first bs m less same)

-- a text without LF is one line
pub cut_last : (bs : Bytes) → 0 < length bs → line_length bs ≡ length bs → cut bs ≡ bs ∷ []
cut_last [] h is = absurd (omega arith)
cut_last (b ∷ []) h is =
    let other = lf_later (eqb b 10) 0 0 (sym is) in
    cut_byte b [] other (and_false (eqb b 13)) ∙ ap (onto_first b) cut_nil
cut_last (b ∷ x ∷ bs) h is =
    let other = lf_later (eqb b 10) (suc (length bs)) (line_length (x ∷ bs)) (sym is) in
    let same : line_length (x ∷ bs) ≡ length (x ∷ bs) = sym (lf_one_less (eqb b 10) (suc (length bs)) (line_length (x ∷ bs)) (sym is)) in
    let other_x = lf_later (eqb x 10) (length bs) (line_length bs) (sym same) in
    let none : (eqb b 13 && eqb x 10) ≡ false = rw (other_x, and_false (eqb b 13)) refl in
    cut_byte b (x ∷ bs) other none ∙ onto_first_of b _ _ _ (cut_last (x ∷ bs) (omega arith) same)

-- the first line of a text, and what stands behind it
pub cuts : (bs behind : Bytes) (n before : ℕ) → n < length bs → n ≡ line_length bs → before ≡ before_return (take n bs) → behind ≡ drop (n + 1) bs
    → cut bs ≡ take before bs ∷ cut behind
cuts bs behind n before within is here there =
    let next : suc n ≡ n + 1 = omega arith in
    cut_first bs n within is ∙ ap (λ k. take k bs ∷ cut (drop (suc n) bs)) (sym here)
    ∙ ap (λ k. take before bs ∷ cut (drop k bs)) next ∙ ap (λ t. take before bs ∷ cut t) (sym there)

pub cuts_last : (bs behind : Bytes) (n : ℕ) → 0 < length bs → n ≡ length bs → n ≡ line_length bs → length behind ≡ 0 → cut bs ≡ bs ∷ cut behind
cuts_last bs [] n some at is none = cut_last bs some (sym is ∙ at) ∙ ap (λ rest. bs ∷ rest) (sym cut_nil)
cuts_last bs (b ∷ behind) n some at is none = absurd (omega arith)

-- what a slice from a place on is
pub rest_of : (n : ℕ) (bs : Bytes) → take (length bs - n) (drop n bs) ≡ drop n bs
rest_of n bs = take_all (length bs - n) (drop n bs) (simp length-drop (omega arith))

both_false : (a b : Bool) → (a || b) ≡ false → (a ≡ false) × (b ≡ false)
both_false true b h = absurd (true≢false h)
both_false false b h = (refl, h)

pub ascii_from_no_other : (bs : Bytes) → has_other bs ≡ false → IsAscii bs
ascii_from_no_other [] h = IsAscii-nil
ascii_from_no_other (b ∷ bs) h =
    let parts = both_false (ltb b 32 || ltb 126 b) (has_other bs) h in
    let high = (both_false (ltb b 32) (ltb 126 b) parts.0).1 in
    let small : b < 128 = grind (arith, nat_tests) in
    IsAscii-cons b bs small (ascii_from_no_other bs parts.1)
