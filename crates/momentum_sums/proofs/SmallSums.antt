-- Where no token is blamed, every sum is small.
use Rattle.std.proofs.Common.{◌≡◌, ◌<◌, ◌≤◌, ◌+◌, ℕ, Bool, true, false, ◌||◌, Some, None, List, [], ◌∷◌, ◌++◌, ◌⊎◌, map, length, get_or, arith, leb, inl, inr, refl, sym, ap, subst, ◌∙◌, append-nil, append_assoc}
use Rattle.std.specs.List.{list_any, All}
use Rattle.std.proofs.lemmas.Bool.{cases_Bool}
use Rattle.std.proofs.lemmas.Slice.Eq.{bytes_eq-Decides}
use Rattle.text_tokens.specs.Tokens.{Token, number, name, plus, minus, star, slash, caret, opening, closing, other, tokens_of}
use Rattle.text_tokens.specs.Names.{is_among}
use Rattle.text_tokens.specs.Faults.{tokens_in, IsBlameless}
use Rattle.momentum_sums.specs.Momenta.{Sum, sum_after, sum_of, is_small, is_named, momentum_blame}
use Rattle.text_tokens.specs.declared.faults.TextKind.TheVariants as text_kind
use Rattle.std.specs.Prelude.{ℤ, pos, ◌-ℤ◌, replicate, IsTrue}
use Rattle.std.proofs.lemmas.List.{length-map, get_or-map}
use Rattle.std.proofs.lemmas.Bool.{and_parts, leb-true}
use Rattle.std.proofs.lemmas.Int.{ints}
use Rattle.momentum_sums.specs.Momenta.{coefficient_of, IsCoefficient, IsMomentum}
use Rattle.momentum_sums.specs.MomentumReader.{tally_of, has_small_sum, IsTalliedText}
use Rattle.momentum_sums.specs.declared.momentum_reader.Tally.{Tally}
use Rattle.text_tokens.proofs.NameLemmas.{among_at}
use Rattle.momentum_sums.proofs.TallyLemmas.{sum_push}

-- a token that isn't the name keeps its sum small
pub other_keeps : (w : List ℕ) (s : Sum) (t : Token) → is_named w t ≡ false → is_small (sum_after w s t) ≡ is_small s
other_keeps w s plus h = refl
other_keeps w s minus h = refl
other_keeps w s (number ds) h = refl
other_keeps w s (name v) h = rw h refl
other_keeps w s star h = refl
other_keeps w s (slash at) h = refl
other_keeps w s caret h = refl
other_keeps w s opening h = refl
other_keeps w s closing h = refl
other_keeps w s other h = refl

-- at the last token of a name its sum is small, or the token is blamed
pub last_is_small : (names : List (List ℕ)) (before after : List Token) (w : List ℕ) (t : Token) → is_among names w ≡ true → is_named w t ≡ true →
    list_any (is_named w) after ≡ false → momentum_blame names before t after ≡ None → is_small (sum_of (before ++ t ∷ []) w) ≡ true
last_is_small names before after w (name v) among same last none =
    let is : w ≡ v = (bytes_eq-Decides w v).0 same in
    let P : List ℕ → Type 0 = λ u. is_among names u ≡ true → list_any (is_named u) after ≡ false → is_small (sum_of (before ++ name v ∷ []) u) ≡ true in
    subst P (sym is) (λ a l. at_last a l) among last
  where
    at_last : is_among names v ≡ true → list_any (is_named v) after ≡ false → is_small (sum_of (before ++ name v ∷ []) v) ≡ true
    at_last a l = elim (cases_Bool (is_small (sum_of (before ++ name v ∷ []) v))) [
      | inl t ↦ t
      | inr f ↦ let blame : momentum_blame names before (name v) after ≡ Some text_kind.OutOfRange = rw (a, l, f) refl in absurd (cc)
    ]
last_is_small names before after w t among same last none = absurd (cc)

both_false : (x y : Bool) → x ≡ false → y ≡ false → (x || y) ≡ true → ⊥
both_false x y p q r = let e : (false || false) ≡ true = rw (p, q) at r in cc

pub sum_is_small : (names : List (List ℕ)) (before rest : List Token) (w : List ℕ) → is_among names w ≡ true →
    (is_small (sum_of before w) ≡ true) ⊎ (list_any (is_named w) rest ≡ true) →
    IsBlameless (momentum_blame names) before rest → is_small (sum_of (before ++ rest) w) ≡ true
sum_is_small names before [] w among (inl s) b = rw (append-nil before) s
sum_is_small names before [] w among (inr a) b = absurd (cc)
sum_is_small names before (t ∷ rest) w among h b =
    subst (λ ts. is_small (sum_of ts w) ≡ true) (append_assoc before (t ∷ []) rest)
    (sum_is_small names (before ++ t ∷ []) rest w among (next (cases_Bool (is_named w t)) (cases_Bool (list_any (is_named w) rest)) h) b.1)
  where
    next : (is_named w t ≡ true) ⊎ (is_named w t ≡ false) → (list_any (is_named w) rest ≡ true) ⊎ (list_any (is_named w) rest ≡ false) →
        (is_small (sum_of before w) ≡ true) ⊎ ((is_named w t || list_any (is_named w) rest) ≡ true) →
        (is_small (sum_of (before ++ t ∷ []) w) ≡ true) ⊎ (list_any (is_named w) rest ≡ true)
    next n (inl later) h = inr later
    next (inl is) (inr last) h = inl (last_is_small names before rest w t among is last b.0)
    next (inr not_named) (inr last) (inl s) = inl (ap is_small (sum_push before t w) ∙ other_keeps w (sum_of before w) t not_named ∙ s)
    next (inr not_named) (inr last) (inr any) = absurd (both_false _ _ not_named last any)

-- so all tallies of a text are small
pub small_tallies : (names : List (List ℕ)) (ts : List Token) (kept : List Tally) → IsBlameless (momentum_blame names) [] ts → kept ≡ map (tally_of ts) names →
    All (λ t. IsTrue (has_small_sum t)) kept
small_tallies names ts kept b is k d lt =
    let h : k < length names = omega (arith, ap length is, length-map names (tally_of ts)) in
    let w : List ℕ = get_or names k [] in
    let e : get_or kept k d ≡ tally_of ts w = ap (λ q. get_or q k d) is ∙ get_or-map (tally_of ts) names k [] d h in
    ap has_small_sum e ∙ sum_is_small names [] ts w (among_at names w k h ((bytes_eq-Decides w w).1 refl)) (inl refl) b

-- and no text has none of them
pub no_tallies : (names : List (List ℕ)) → replicate (length names) (tally_of [] []) ≡ map (tally_of []) names
no_tallies [] = refl
no_tallies (n ∷ names) = ap (λ ts. tally_of [] n ∷ ts) (no_tallies names)

pub in_range : (t : Tally) → has_small_sum t ≡ true → IsCoefficient (pos t.added -ℤ pos t.taken)
in_range t h =
    let parts = and_parts (leb t.added (t.taken + 1000)) (leb t.taken (t.added + 1000)) h in
    let a : t.added ≤ t.taken + 1000 = leb-true t.added (t.taken + 1000) parts.0 in
    let b : t.taken ≤ t.added + 1000 = leb-true t.taken (t.added + 1000) parts.1 in
    (omega (arith, ints), omega (arith, ints))

pub all_in_range : (kept : List Tally) → All (λ t. IsTrue (has_small_sum t)) kept → All IsCoefficient (map (λ t. pos t.added -ℤ pos t.taken) kept)
all_in_range kept h k d lt =
    let size : k < length kept = omega (arith, length-map kept (λ (t : Tally). pos t.added -ℤ pos t.taken)) in
    let e : get_or (map (λ (t : Tally). pos t.added -ℤ pos t.taken) kept) k d ≡ pos (get_or kept k zero_tally).added -ℤ pos (get_or kept k zero_tally).taken =
    get_or-map (λ (t : Tally). pos t.added -ℤ pos t.taken) kept k zero_tally d size in
    subst IsCoefficient (sym e) (in_range (get_or kept k zero_tally) (h k zero_tally size))
  where
    zero_tally : Tally
    zero_tally = record { added = 0; taken = 0 }

pub coefficients_are : (names : List (List ℕ)) (ts : List Token) (kept : List Tally) (cs : List ℤ) → kept ≡ map (tally_of ts) names →
    cs ≡ map (λ t. pos t.added -ℤ pos t.taken) kept → cs ≡ map (coefficient_of ts) names
coefficients_are names ts kept cs is e = e ∙ ap (map (λ (t : Tally). pos t.added -ℤ pos t.taken)) is ∙ twice names
  where
    twice : (ns : List (List ℕ)) → map (λ (t : Tally). pos t.added -ℤ pos t.taken) (map (tally_of ts) ns) ≡ map (coefficient_of ts) ns
    twice [] = refl
    twice (n ∷ ns) = ap (λ q. coefficient_of ts n ∷ q) (twice ns)

pub tallies_are_small : (names : List (List ℕ)) (text : List ℕ) (kept : List Tally) → IsTalliedText names text kept → All (λ t. IsTrue (has_small_sum t)) kept
tallies_are_small names text kept h = small_tallies names (tokens_in (tokens_of text)) kept h.blameless h.tallies

pub is_momentum : (names : List (List ℕ)) (text : List ℕ) (kept : List Tally) (cs : List ℤ) → IsTalliedText names text kept →
    cs ≡ map (λ t. pos t.added -ℤ pos t.taken) kept → IsMomentum names text cs
is_momentum names text kept cs h e = record {
  grammar = h.grammar;
  blameless = h.blameless;
  sums = coefficients_are names (tokens_in (tokens_of text)) kept cs h.tallies e;
}

pub coefficients_in_range : (names : List (List ℕ)) (text : List ℕ) (kept : List Tally) (cs : List ℤ) → IsTalliedText names text kept →
    cs ≡ map (λ t. pos t.added -ℤ pos t.taken) kept → All IsCoefficient cs
coefficients_in_range names text kept cs h e = subst (All IsCoefficient) (sym e) (all_in_range kept (tallies_are_small names text kept h))
