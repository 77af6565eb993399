-- A printed momentum reads back as itself.
use Rattle.std.proofs.Common.{◌≡◌, ◌<◌, ◌≤◌, ◌+◌, ◌^◌, ℕ, Bool, true, false, ◌||◌, List, [], ◌∷◌, ◌++◌, map, length, None, arith, inl, inr, refl, sym, ap, subst, ◌∙◌, append_assoc, append-nil}
use Rattle.std.specs.Prelude.{ℤ, pos, negsuc, ◌-ℤ◌, fold}
use Rattle.std.specs.List.{list_any}
use Rattle.std.specs.Str.{bytes_eq}
use Rattle.std.proofs.lemmas.Bool.{lt-leb, le-ltb, le-leb, and_from, cases_Bool}
use Rattle.std.proofs.lemmas.Int.{ints}
use Rattle.std.proofs.lemmas.Slice.Eq.{bytes_eq-Decides}
use Rattle.text_tokens.specs.Tokens.{Token, sign_token, number, name, plus, minus, star, slash, caret, opening, closing, other, number_of, tokens_of}
use Rattle.text_tokens.specs.Faults.{tokens_in, IsBlameless}
use Rattle.text_tokens.specs.Names.{is_among}
use Rattle.momentum_sums.specs.Momenta.{Terms, signed, followed, scaled, terms_tokens, Sum, sum_after, sum_of, coefficient_of, is_small, is_named, momentum_blame, IsMomentumText, IsMomentum, IsCoefficient}
use Rattle.momentum_sums.specs.Printed.{decimal, printed, AreDistinctNames, AreCoefficients}
use Rattle.momentum_sums.proofs.TallyLemmas.{sum_push, blame_small}
use Rattle.momentum_sums.proofs.PrintedTokens.{sign_of, size_of, printed_tokens, printed_run, number_of-decimal}

-- the grammar
grow : (m : Terms) (names : List (List ℕ)) (cs : List ℤ) → (n : Terms) × (terms_tokens n ≡ terms_tokens m ++ printed_tokens names cs)
grow m [] cs = (m, sym (append-nil (terms_tokens m)))
grow m (w ∷ names) [] = (m, sym (append-nil (terms_tokens m)))
grow m (w ∷ names) (c ∷ cs) =
    let more = grow (followed m (sign_of c) (scaled (decimal (size_of c)) w)) names cs in
    (more.0, more.1 ∙ append_assoc (terms_tokens m) (sign_token (sign_of c) ∷ number (decimal (size_of c)) ∷ star ∷ name w ∷ []) (printed_tokens names cs))

pub is_text : (names : List (List ℕ)) (cs : List ℤ) → 0 < length names → length cs ≡ length names → IsMomentumText (printed_tokens names cs)
is_text [] cs some size = absurd (omega arith)
is_text (w ∷ names) [] some size = absurd (omega arith)
is_text (w ∷ names) (c ∷ cs) some size = grow (signed (sign_of c) (scaled (decimal (size_of c)) w)) names cs

-- one printed term
abbrev pub term_after : ℤ → List ℕ → List ℕ → Sum → Sum
term_after c w v s = sum_after v (sum_after v (sum_after v (sum_after v s (sign_token (sign_of c))) (number (decimal (size_of c)))) star) (name w)

pub record IsZero (s : Sum) : Type 0 where
  pub added : s.added ≡ 0
  pub taken : s.taken ≡ 0

eq_self : (w : List ℕ) → bytes_eq w w ≡ true
eq_self w = (bytes_eq-Decides w w).1 refl

eq_turned : (v w : List ℕ) → bytes_eq v w ≡ false → bytes_eq w v ≡ false
eq_turned v w h = elim (cases_Bool (bytes_eq w v)) [
  | inl t ↦ let same : bytes_eq v w ≡ true = (bytes_eq-Decides v w).1 (sym ((bytes_eq-Decides w v).0 t)) in absurd (cc)
  | inr f ↦ f
]

-- its own name gets the coefficient
pub record HasCoefficient (s : Sum) (c : ℤ) : Type 0 where
  pub is : pos s.added -ℤ pos s.taken ≡ c
  pub small : IsCoefficient c → is_small s ≡ true

has_coefficient : (q : Sum) (a t : ℕ) (c : ℤ) → q.added ≡ a → q.taken ≡ t → pos a -ℤ pos t ≡ c → (IsCoefficient c → (a ≤ t + 1000) × (t ≤ a + 1000)) → HasCoefficient q c
has_coefficient q a t c e f is low = record {
  is = ap (λ x. pos x -ℤ pos q.taken) e ∙ ap (λ x. pos a -ℤ pos x) f ∙ is;
  small = λ h. and_from _ _ (le-leb q.added (q.taken + 1000) (omega (arith, (low h).0))) (le-leb q.taken (q.added + 1000) (omega (arith, (low h).1)));
}

own_term : (c : ℤ) (w : List ℕ) (s : Sum) → IsZero s → HasCoefficient (term_after c w w s) c
own_term (pos n) w s z =
    let a : (term_after (pos n) w w s).added ≡ n = rw (eq_self w) (omega (arith, z.added, number_of-decimal n)) in
    let t : (term_after (pos n) w w s).taken ≡ 0 = rw (eq_self w) z.taken in
    has_coefficient (term_after (pos n) w w s) n 0 (pos n) a t (omega (arith, ints)) (λ h. (omega (arith, ints, h.1), omega arith))
own_term (negsuc n) w s z =
    let a : (term_after (negsuc n) w w s).added ≡ 0 = rw (eq_self w) z.added in
    let t : (term_after (negsuc n) w w s).taken ≡ n + 1 = rw (eq_self w) (omega (arith, z.taken, number_of-decimal (n + 1))) in
    has_coefficient (term_after (negsuc n) w w s) 0 (n + 1) (negsuc n) a t (omega (arith, ints)) (λ h. (omega arith, omega (arith, ints, h.0)))

-- another name keeps its sum
other_term : (c : ℤ) (w v : List ℕ) (s : Sum) → bytes_eq v w ≡ false → IsZero s → IsZero (term_after c w v s)
other_term (pos n) w v s ne z = record { added = rw ne z.added; taken = rw ne z.taken }
other_term (negsuc n) w v s ne z = record { added = rw ne z.added; taken = rw ne z.taken }

-- tokens that don't name w keep its sum
quiet : (w : List ℕ) (s : Sum) (t : Token) → is_named w t ≡ false → ((sum_after w s t).added ≡ s.added) × ((sum_after w s t).taken ≡ s.taken)
quiet w s plus h = (refl, refl)
quiet w s minus h = (refl, refl)
quiet w s (number ds) h = (refl, refl)
quiet w s (name v) h = (rw h refl, rw h refl)
quiet w s star h = (refl, refl)
quiet w s (slash at) h = (refl, refl)
quiet w s caret h = (refl, refl)
quiet w s opening h = (refl, refl)
quiet w s closing h = (refl, refl)
quiet w s other h = (refl, refl)

none_of : (x y : Bool) → (x || y) ≡ false → (x ≡ false) × (y ≡ false)
none_of true y h = absurd (cc)
none_of false y h = (refl, h)

all_quiet : (w : List ℕ) (s : Sum) (ts : List Token) → list_any (is_named w) ts ≡ false → ((fold (sum_after w) s ts).added ≡ s.added) × ((fold (sum_after w) s ts).taken ≡ s.taken)
all_quiet w s [] h = (refl, refl)
all_quiet w s (t ∷ ts) h =
    let parts = none_of (is_named w t) (list_any (is_named w) ts) h in
    let rest = all_quiet w (sum_after w s t) ts parts.1 in
    let here = quiet w s t parts.0 in
    (rest.0 ∙ here.0, rest.1 ∙ here.1)

no_sign : (w : List ℕ) (c : ℤ) → is_named w (sign_token (sign_of c)) ≡ false
no_sign w (pos n) = refl
no_sign w (negsuc n) = refl

not_later : (w : List ℕ) (names : List (List ℕ)) (cs : List ℤ) → is_among names w ≡ false → list_any (is_named w) (printed_tokens names cs) ≡ false
not_later w [] cs h = refl
not_later w (n ∷ names) [] h = refl
not_later w (n ∷ names) (c ∷ cs) h =
    let parts = none_of (bytes_eq n w) (is_among names w) h in
    rw (no_sign w c, eq_turned n w parts.0) (not_later w names cs parts.1)

-- the sums of names that didn't come yet
pub AllZero : (List ℕ → Sum) → List (List ℕ) → Type 0
AllZero S [] = Unit {0}
AllZero S (w ∷ names) = IsZero (S w) × AllZero S names

zero_more : (c : ℤ) (w : List ℕ) (S : List ℕ → Sum) (names : List (List ℕ)) → is_among names w ≡ false → AllZero S names → AllZero (λ v. term_after c w v (S v)) names
unfolding AllZero
zero_more c w S [] h z = tt
zero_more c w S (n ∷ names) h z =
    let parts = none_of (bytes_eq n w) (is_among names w) h in
    (other_term c w n (S n) parts.0 z.0, zero_more c w S names parts.1 z.1)

-- the coefficients
abbrev coefficient_in : Sum → ℤ
coefficient_in s = pos s.added -ℤ pos s.taken

sums_are : (names : List (List ℕ)) (cs : List ℤ) (S : List ℕ → Sum) → length cs ≡ length names → AreDistinctNames names → AllZero S names →
    map (λ v. coefficient_in (fold (sum_after v) (S v) (printed_tokens names cs))) names ≡ cs
unfolding AllZero
sums_are [] [] S size are z = refl
sums_are [] (c ∷ cs) S size are z = absurd (omega arith)
sums_are (w ∷ names) [] S size are z = absurd (omega arith)
sums_are (w ∷ names) (c ∷ cs) S size are z =
    let own = own_term c w (S w) z.0 in
    let later = all_quiet w (term_after c w w (S w)) (printed_tokens names cs) (not_later w names cs are.1) in
    let head : coefficient_in (fold (sum_after w) (term_after c w w (S w)) (printed_tokens names cs)) ≡ c =
    ap (λ a. pos a -ℤ pos (fold (sum_after w) (term_after c w w (S w)) (printed_tokens names cs)).taken) later.0
    ∙ ap (λ t. pos (term_after c w w (S w)).added -ℤ pos t) later.1 ∙ own.is in
    let tail : map (λ v. coefficient_in (fold (sum_after v) (term_after c w v (S v)) (printed_tokens names cs))) names ≡ cs =
    sums_are names cs (λ v. term_after c w v (S v)) (omega arith) are.2 (zero_more c w S names are.1 z.1) in
    ap (λ q. q ∷ map (λ v. coefficient_in (fold (sum_after v) (term_after c w v (S v)) (printed_tokens names cs))) names) head
    ∙ ap (λ q. c ∷ q) tail

-- no token is blamed
sum_of_term : (before : List Token) (c : ℤ) (w v : List ℕ) →
    sum_of ((((before ++ sign_token (sign_of c) ∷ []) ++ number (decimal (size_of c)) ∷ []) ++ star ∷ []) ++ name w ∷ []) v ≡ term_after c w v (sum_of before v)
sum_of_term before c w v =
    let s1 = sum_push before (sign_token (sign_of c)) v in
    let s2 = sum_push (before ++ sign_token (sign_of c) ∷ []) (number (decimal (size_of c))) v in
    let s3 = sum_push ((before ++ sign_token (sign_of c) ∷ []) ++ number (decimal (size_of c)) ∷ []) star v in
    let s4 = sum_push (((before ++ sign_token (sign_of c) ∷ []) ++ number (decimal (size_of c)) ∷ []) ++ star ∷ []) (name w) v in
    s4 ∙ ap (λ q. sum_after v q (name w)) s3 ∙ ap (λ q. sum_after v (sum_after v q star) (name w)) s2
    ∙ ap (λ q. sum_after v (sum_after v (sum_after v q (number (decimal (size_of c)))) star) (name w)) s1

size_small : (c : ℤ) → IsCoefficient c → size_of c ≤ 1000
size_small (pos n) h = omega (arith, ints, h.1)
size_small (negsuc n) h = omega (arith, ints, h.0)

sign_blameless : (all : List (List ℕ)) (before later : List Token) (c : ℤ) → momentum_blame all before (sign_token (sign_of c)) later ≡ None
sign_blameless all before later (pos n) = refl
sign_blameless all before later (negsuc n) = refl

number_blameless : (all : List (List ℕ)) (before later : List Token) (n : ℕ) → n ≤ 1000 → momentum_blame all before (number (decimal n)) later ≡ None
number_blameless all before later n small =
    rw (lt-leb (2 ^ 128) (number_of (decimal n)) (omega (arith, number_of-decimal n)), le-ltb 1000 (number_of (decimal n)) (omega (arith, number_of-decimal n))) refl

or_true : (b : Bool) → (b || true) ≡ true
or_true true = refl
or_true false = refl

among_middle : (done names : List (List ℕ)) (w : List ℕ) → is_among (done ++ w ∷ names) w ≡ true
among_middle [] names w = rw (eq_self w) refl
among_middle (n ∷ done) names w = rw (among_middle done names w) (or_true (bytes_eq n w))

zero_sums : (before after : List Token) (S : List ℕ → Sum) (names : List (List ℕ)) → ((v : List ℕ) → sum_of after v ≡ S v) → AllZero S names → AllZero (sum_of after) names
unfolding AllZero
zero_sums before after S [] e z = tt
zero_sums before after S (n ∷ names) e z = (subst IsZero (sym (e n)) z.0, zero_sums before after S names e z.1)

blameless : (done names : List (List ℕ)) (cs : List ℤ) (before : List Token) → AreDistinctNames names → AreCoefficients cs → AllZero (sum_of before) names →
    IsBlameless (momentum_blame (done ++ names)) before (printed_tokens names cs)
unfolding AllZero
blameless done [] cs before are low z = tt
blameless done (w ∷ names) [] before are low z = tt
blameless done (w ∷ names) (c ∷ cs) before are low z =
    let b3 = ((before ++ sign_token (sign_of c) ∷ []) ++ number (decimal (size_of c)) ∷ []) ++ star ∷ [] in
    let b4 = b3 ++ name w ∷ [] in
    let sums = λ (v : List ℕ). sum_of_term before c w v in
    let own = own_term c w (sum_of before w) z.0 in
    let small : is_small (sum_of b4 w) ≡ true = ap is_small (sums w) ∙ own.small low.0 in
    let all : done ++ w ∷ names ≡ (done ++ w ∷ []) ++ names = sym (append_assoc done (w ∷ []) names) in
    let rest : IsBlameless (momentum_blame (done ++ w ∷ names)) b4 (printed_tokens names cs) =
    subst (λ q. IsBlameless (momentum_blame q) b4 (printed_tokens names cs)) (sym all)
    (blameless (done ++ w ∷ []) names cs b4 are.2 low.1
    (zero_sums before b4 (λ v. term_after c w v (sum_of before v)) names sums (zero_more c w (sum_of before) names are.1 z.1))) in (
      sign_blameless (done ++ w ∷ names) before (number (decimal (size_of c)) ∷ star ∷ name w ∷ printed_tokens names cs) c,
      (
        number_blameless (done ++ w ∷ names) (before ++ sign_token (sign_of c) ∷ []) (star ∷ name w ∷ printed_tokens names cs) (size_of c) (size_small c low.0),
        (refl, (blame_small (done ++ w ∷ names) b3 (printed_tokens names cs) w (among_middle done names w) small, rest)),
      ),
    )

nothing_yet : (names : List (List ℕ)) → AllZero (sum_of []) names
unfolding AllZero
nothing_yet [] = tt
nothing_yet (w ∷ names) = (record { added = refl; taken = refl }, nothing_yet names)

pub reads_back : (names : List (List ℕ)) (cs : List ℤ) → 0 < length names → length cs ≡ length names → AreDistinctNames names → AreCoefficients cs →
    IsMomentum names (printed names cs) cs
reads_back names cs some size are low =
    let tokens : tokens_in (tokens_of (printed names cs)) ≡ printed_tokens names cs = printed_run names cs 0 are in
    record {
      grammar = subst IsMomentumText (sym tokens) (is_text names cs some size);
      blameless = subst (IsBlameless (momentum_blame names) []) (sym tokens) (blameless [] names cs [] are low (nothing_yet names));
      sums = sym (sums_are names cs (sum_of []) size are (nothing_yet names)) ∙ ap (λ ts. map (coefficient_of ts) names) (sym tokens);
    }
