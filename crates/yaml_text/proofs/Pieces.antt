-- How the functions that cut pieces meet the definitions.
use Rattle.std.proofs.Common.{◌≡◌, ℕ, suc, ◌+◌, ◌-◌, ◌<◌, ◌≤◌, true, false, not, eqb, [], ◌∷◌, length, drop, get_or, refl, ap, sym, ◌∙◌, arith}
use Rattle.std.proofs.lemmas.List.{at_drop_more, drop_all}
use Rattle.yaml_text.specs.Lines.{Bytes}
use Rattle.yaml_text.specs.Words.{stops_plain, plain_length, is_whole}

plain_length_goes : (b : ℕ) (bs : Bytes) → stops_plain (b ∷ bs) ≡ false → plain_length (b ∷ bs) ≡ suc (plain_length bs)
unfolding plain_length
plain_length_goes b bs h = rw h refl

plain_length_stops : (b : ℕ) (bs : Bytes) → stops_plain (b ∷ bs) ≡ true → plain_length (b ∷ bs) ≡ 0
unfolding plain_length
plain_length_stops b bs h = rw h refl

pub plain_length_more : (z : Bytes) (i : ℕ) → i < length z → stops_plain (drop i z) ≡ false → plain_length (drop i z) ≡ suc (plain_length (drop (i + 1) z))
plain_length_more z i within h =
    at_drop_more plain_length z i 0 within ∙ plain_length_goes (get_or z i 0) (drop (i + 1) z) (sym (at_drop_more stops_plain z i 0 within) ∙ h)

pub plain_length_done : (z : Bytes) (i : ℕ) → i < length z → stops_plain (drop i z) ≡ true → plain_length (drop i z) ≡ 0
plain_length_done z i within h =
    at_drop_more plain_length z i 0 within ∙ plain_length_stops (get_or z i 0) (drop (i + 1) z) (sym (at_drop_more stops_plain z i 0 within) ∙ h)

pub plain_length_end : (z : Bytes) (i : ℕ) → length z ≤ i → plain_length (drop i z) ≡ 0
unfolding plain_length
plain_length_end z i past = ap plain_length (drop_all i z past)

pub whole_last : (z : Bytes) → 0 < length z → not (eqb (get_or z (length z - 1) 0) 58) ≡ is_whole z
whole_last [] some = absurd (omega arith)
whole_last (b ∷ []) some = refl
whole_last (b ∷ c ∷ bs) some =
    let e : length (b ∷ c ∷ bs) - 1 ≡ suc (length (c ∷ bs) - 1) = omega arith in
    ap (λ n. not (eqb (get_or (b ∷ c ∷ bs) n 0) 58)) e ∙ whole_last (c ∷ bs) (omega arith)
