-- The tallies of names, token by token.
use Rattle.std.proofs.Common.{◌≡◌, ◌<◌, ◌≤◌, ◌+◌, ◌^◌, ℕ, Bool, true, false, not, cond, ◌&&◌, Some, None, List, [], ◌∷◌, ◌++◌, map, length, get_or, arith, inl, inr, refl, sym, ap, ◌∙◌}
use Rattle.std.specs.List.{list_any, All}
use Rattle.std.specs.Str.{bytes_eq}
use Rattle.std.proofs.lemmas.List.{length_push, length-map, same_lists, get_or-map}
use Rattle.std.proofs.lemmas.List.Sums.{fold_push}
use Rattle.std.proofs.lemmas.Slice.Eq.{bytes_eq-Decides}
use Rattle.std.proofs.lemmas.Bool.{cases_Bool}
use Rattle.text_tokens.specs.Tokens.{Token, name, star}
use Rattle.text_tokens.specs.Names.{is_among}
use Rattle.momentum_sums.specs.Momenta.{Sum, sum_after, sum_of, is_small, is_named, momentum_blame}
use Rattle.momentum_sums.specs.MomentumReader.{IsTallied, HasRoom, tally_of, with_term, has_small_sum}
use Rattle.momentum_sums.specs.declared.momentum_reader.Tally.{Tally}
use Rattle.text_tokens.specs.declared.faults.TextKind.TheVariants as text_kind

pub sum_push : (before : List Token) (t : Token) (w : List ℕ) → sum_of (before ++ t ∷ []) w ≡ sum_after w (sum_of before w) t
sum_push before t w = fold_push (sum_after w) _ before t

-- what a name adds to a sum
abbrev with_name : Bool → Sum → Sum
with_name same s = cond same (cond s.is_negative (record s { taken = s.taken + s.factor }) (record s { added = s.added + s.factor })) s

abbrev tally_in : Sum → Tally
tally_in s = record { added = s.added; taken = s.taken }

name_keeps_sign : (same : Bool) (s : Sum) → (with_name same s).is_negative ≡ s.is_negative
name_keeps_sign true s = elim (cases_Bool s.is_negative) [ inl t ↦ rw t refl | inr f ↦ rw f refl ]
name_keeps_sign false s = refl

name_keeps_factor : (same : Bool) (s : Sum) → (with_name same s).factor ≡ s.factor
name_keeps_factor true s = elim (cases_Bool s.is_negative) [ inl t ↦ rw t refl | inr f ↦ rw f refl ]
name_keeps_factor false s = refl

name_adds : (same : Bool) (s : Sum) → (with_name same s).added ≤ s.added + s.factor
name_adds true s = elim (cases_Bool s.is_negative) [ inl t ↦ rw t (omega arith) | inr f ↦ rw f (omega arith) ]
name_adds false s = omega arith

name_takes : (same : Bool) (s : Sum) → (with_name same s).taken ≤ s.taken + s.factor
name_takes true s = elim (cases_Bool s.is_negative) [ inl t ↦ rw t (omega arith) | inr f ↦ rw f (omega arith) ]
name_takes false s = omega arith

name_tally : (same : Bool) (s : Sum) → tally_in (with_name same s) ≡ cond same (with_term s.is_negative s.factor (tally_in s)) (tally_in s)
name_tally true s = elim (cases_Bool s.is_negative) [ inl t ↦ rw t refl | inr f ↦ rw f refl ]
name_tally false s = refl

same_map : {f g : List ℕ → Tally} (names : List (List ℕ)) → ((n : List ℕ) → f n ≡ g n) → map f names ≡ map g names
same_map [] h = refl
same_map {f} {g} (n ∷ names) h = ap (λ t. t ∷ map f names) (h n) ∙ ap (λ ts. g n ∷ ts) (same_map names h)

and_not : (b : Bool) → (b && false) ≡ false
and_not true = refl
and_not false = refl

-- a name's tally, with a name more
pub tally_name : (before : List Token) (w n : List ℕ) →
    tally_of (before ++ name w ∷ []) n ≡ cond (bytes_eq n w) (with_term (sum_of before n).is_negative (sum_of before n).factor (tally_of before n)) (tally_of before n)
tally_name before w n = ap tally_in (sum_push before (name w) n) ∙ name_tally (bytes_eq n w) (sum_of before n)

-- the tallies after a name
pub tallied_name : (names : List (List ℕ)) (before : List Token) (w : List ℕ) (is_negative : Bool) (factor : ℕ) (old new : List Tally) →
    length new ≡ length names →
    ((k : ℕ) (t : Tally) → k < length names → get_or new k t ≡ cond (bytes_eq (get_or names k []) w) (with_term is_negative factor (get_or old k t)) (get_or old k t)) →
    IsTallied names before is_negative factor old → IsTallied names (before ++ name w ∷ []) is_negative factor new
tallied_name names before w is_negative factor old new size each s = record {
  sign = λ v. ap (λ q. q.is_negative) (sum_push before (name w) v) ∙ name_keeps_sign (bytes_eq v w) (sum_of before v) ∙ s.sign v;
  scale = λ v. ap (λ q. q.factor) (sum_push before (name w) v) ∙ name_keeps_factor (bytes_eq v w) (sum_of before v) ∙ s.scale v;
  small = s.small;
  added = λ v.
      let e : (sum_of (before ++ name w ∷ []) v).added ≡ (with_name (bytes_eq v w) (sum_of before v)).added = ap (λ q. q.added) (sum_push before (name w) v) in
      omega (arith, name_adds (bytes_eq v w) (sum_of before v), s.added v, s.scale v, s.small, length_push before (name w));
  taken = λ v.
      let e : (sum_of (before ++ name w ∷ []) v).taken ≡ (with_name (bytes_eq v w) (sum_of before v)).taken = ap (λ q. q.taken) (sum_push before (name w) v) in
      omega (arith, name_takes (bytes_eq v w) (sum_of before v), s.taken v, s.scale v, s.small, length_push before (name w));
  tallies = same_lists new (map (tally_of (before ++ name w ∷ [])) names) (size ∙ sym (length-map names (tally_of (before ++ name w ∷ []))))
      (λ k d h. at k d (omega arith));
}
  where
    at : (k : ℕ) (d : Tally) → k < length names → get_or new k d ≡ get_or (map (tally_of (before ++ name w ∷ [])) names) k d
    at k d h =
        let n : List ℕ = get_or names k [] in
        let was : get_or old k d ≡ tally_of before n = ap (λ ts. get_or ts k d) s.tallies ∙ get_or-map (tally_of before) names k [] d h in
        let is : get_or (map (tally_of (before ++ name w ∷ [])) names) k d ≡ tally_of (before ++ name w ∷ []) n = get_or-map (tally_of (before ++ name w ∷ [])) names k [] d h in
        each k d h
        ∙ ap (λ t. cond (bytes_eq n w) (with_term is_negative factor t) t) was
        ∙ ap (λ b. cond (bytes_eq n w) (with_term b factor (tally_of before n)) (tally_of before n)) (sym (s.sign n))
        ∙ ap (λ q. cond (bytes_eq n w) (with_term (sum_of before n).is_negative q (tally_of before n)) (tally_of before n)) (sym (s.scale n))
        ∙ sym (tally_name before w n) ∙ sym is

pub tallied_sign : (names : List (List ℕ)) (before : List Token) (is_negative : Bool) (factor : ℕ) (kept : List Tally) (t : Token) (b : Bool) →
    ((w : List ℕ) (s : Sum) → sum_after w s t ≡ record s { is_negative = b; factor = 1 }) →
    IsTallied names before is_negative factor kept → IsTallied names (before ++ t ∷ []) b 1 kept
tallied_sign names before is_negative factor kept t b step s = record {
  sign = λ v. ap (λ q. q.is_negative) (sum_push before t v ∙ step v (sum_of before v));
  scale = λ v. ap (λ q. q.factor) (sum_push before t v ∙ step v (sum_of before v));
  small = omega arith;
  added = λ v.
      let e : (sum_of (before ++ t ∷ []) v).added ≡ (sum_of before v).added = ap (λ q. q.added) (sum_push before t v ∙ step v (sum_of before v)) in
      omega (arith, s.added v, length_push before t);
  taken = λ v.
      let e : (sum_of (before ++ t ∷ []) v).taken ≡ (sum_of before v).taken = ap (λ q. q.taken) (sum_push before t v ∙ step v (sum_of before v)) in
      omega (arith, s.taken v, length_push before t);
  tallies = s.tallies ∙ same_map names (λ n. sym (ap tally_in (sum_push before t n ∙ step n (sum_of before n))));
}

pub tallied_number : (names : List (List ℕ)) (before : List Token) (is_negative : Bool) (factor : ℕ) (kept : List Tally) (t : Token) (f : ℕ) → f ≤ 1000 →
    ((w : List ℕ) (s : Sum) → sum_after w s t ≡ record s { factor = f }) →
    IsTallied names before is_negative factor kept → IsTallied names (before ++ t ∷ []) is_negative f kept
tallied_number names before is_negative factor kept t f small step s = record {
  sign = λ v. ap (λ q. q.is_negative) (sum_push before t v ∙ step v (sum_of before v)) ∙ s.sign v;
  scale = λ v. ap (λ q. q.factor) (sum_push before t v ∙ step v (sum_of before v));
  small = small;
  added = λ v.
      let e : (sum_of (before ++ t ∷ []) v).added ≡ (sum_of before v).added = ap (λ q. q.added) (sum_push before t v ∙ step v (sum_of before v)) in
      omega (arith, s.added v, length_push before t);
  taken = λ v.
      let e : (sum_of (before ++ t ∷ []) v).taken ≡ (sum_of before v).taken = ap (λ q. q.taken) (sum_push before t v ∙ step v (sum_of before v)) in
      omega (arith, s.taken v, length_push before t);
  tallies = s.tallies ∙ same_map names (λ n. sym (ap tally_in (sum_push before t n ∙ step n (sum_of before n))));
}

pub tallied_star : (names : List (List ℕ)) (before : List Token) (is_negative : Bool) (factor : ℕ) (kept : List Tally) →
    IsTallied names before is_negative factor kept → IsTallied names (before ++ star ∷ []) is_negative factor kept
tallied_star names before is_negative factor kept s = record {
  sign = λ v. ap (λ q. q.is_negative) (sum_push before star v) ∙ s.sign v;
  scale = λ v. ap (λ q. q.factor) (sum_push before star v) ∙ s.scale v;
  small = s.small;
  added = λ v.
      let e : (sum_of (before ++ star ∷ []) v).added ≡ (sum_of before v).added = ap (λ q. q.added) (sum_push before star v) in
      omega (arith, s.added v, length_push before star);
  taken = λ v.
      let e : (sum_of (before ++ star ∷ []) v).taken ≡ (sum_of before v).taken = ap (λ q. q.taken) (sum_push before star v) in
      omega (arith, s.taken v, length_push before star);
  tallies = s.tallies ∙ same_map names (λ n. sym (ap tally_in (sum_push before star n)));
}

-- a name that is among the names is blamed only for the last of a sum that is out of range
pub blame_small : (names : List (List ℕ)) (before after : List Token) (w : List ℕ) → is_among names w ≡ true →
    is_small (sum_of (before ++ name w ∷ []) w) ≡ true → momentum_blame names before (name w) after ≡ None
blame_small names before after w among small = rw (among, small, and_not (not (list_any (is_named w) after))) refl

pub blame_again : (names : List (List ℕ)) (before after : List Token) (w : List ℕ) → is_among names w ≡ true →
    list_any (is_named w) after ≡ true → momentum_blame names before (name w) after ≡ None
blame_again names before after w among again = rw (among, again) refl

pub blame_range : (names : List (List ℕ)) (before after : List Token) (w : List ℕ) → is_among names w ≡ true →
    list_any (is_named w) after ≡ false → is_small (sum_of (before ++ name w ∷ []) w) ≡ false → momentum_blame names before (name w) after ≡ Some text_kind.OutOfRange
blame_range names before after w among last large = rw (among, last, large) refl

-- the tally of the name that was found
pub small_is : (names : List (List ℕ)) (before : List Token) (w : List ℕ) (is_negative : Bool) (factor : ℕ) (kept : List Tally) (t : Tally) (k : ℕ) →
    k < length names → bytes_eq (get_or names k []) w ≡ true → t ≡ get_or kept k t → IsTallied names before is_negative factor kept →
    has_small_sum t ≡ is_small (sum_of before w)
small_is names before w is_negative factor kept t k lt same read s =
    let here : get_or names k [] ≡ w = (bytes_eq-Decides (get_or names k []) w).0 same in
    ap has_small_sum (read ∙ ap (λ ts. get_or ts k t) s.tallies ∙ get_or-map (tally_of before) names k [] t lt)
    ∙ ap (λ n. is_small (sum_of before n)) here

-- the tallies of a short text leave room
pub room : (names : List (List ℕ)) (before : List Token) (is_negative : Bool) (factor : ℕ) (kept : List Tally) → length kept ≡ length names → length before < 2 ^ 32 →
    IsTallied names before is_negative factor kept → All HasRoom kept
room names before is_negative factor kept size short s k d lt =
    let h : k < length names = omega arith in
    let e : get_or kept k d ≡ tally_of before (get_or names k []) =
    ap (λ ts. get_or ts k d) s.tallies ∙ get_or-map (tally_of before) names k [] d h in
    let a : (get_or kept k d).added ≡ (sum_of before (get_or names k [])).added = ap (λ t. t.added) e in
    let t : (get_or kept k d).taken ≡ (sum_of before (get_or names k [])).taken = ap (λ t. t.taken) e in
    (omega (arith, s.added (get_or names k [])), omega (arith, s.taken (get_or names k [])))
