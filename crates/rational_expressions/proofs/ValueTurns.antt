-- One token of a value: what the reader keeps after it, and the fault that it may have.
use Rattle.std.proofs.Common.{◌≡◌, ◌<◌, ◌≤◌, ◌+◌, ℕ, Bool, true, false, cond, ltb, List, [], ◌∷◌, ◌++◌, length, Option, Some, None, arith, inl, inr, refl, sym, ap, subst, ◌∙◌}
use Rattle.std.specs.Prelude.{count_by, is_some}
use Rattle.std.specs.Option.{MatchOption}
use Rattle.std.proofs.lemmas.Option.{MatchOption-at_some}
use Rattle.std.proofs.lemmas.List.{length_push}
use Rattle.std.proofs.lemmas.List.Sums.{sum_by-append, fold_push}
use Rattle.std.proofs.lemmas.Bool.{cases_Bool, ltb-true, lt-ltb, le-ltb}
use Rattle.text_tokens.specs.Tokens.{Token, plus_sign, minus_sign, number, name, plus, minus, star, slash, caret, opening, closing, number_of}
use Rattle.text_tokens.specs.Pieces.{token_of}
use Rattle.text_tokens.specs.Faults.{CanGoOn, IsAtFault, no_text, blamed}
use Rattle.rational_expressions.specs.Values.{plain, raised, literal, variable, place_of, is_opening, is_closing, is_caret, is_sign, ends_in_caret, value_blame, IsValueText}
use Rattle.rational_expressions.specs.ValueReader.{by, divided, Frame, new_frame, Place, before_atom, before_exponent, behind, Context, product_with, from_start, from_place, advance, IsFresh}
use Rattle.rational_expressions.specs.ValueItems.{mode_of, level_of, levels_of, Shows, HasRead, accepts_of, action_of, HasDone}
use Rattle.rational_expressions.specs.declared.value_reader.Reader.{Reader}
use Rattle.rational_expressions.specs.declared.value_reader.Action.TheVariants as action
use Rattle.rational_expressions.specs.declared.expressions.Item.TheVariants as item
use Rattle.text_tokens.specs.declared.tokens.Kind.{Kind}
use Rattle.text_tokens.specs.declared.tokens.Kind.TheVariants as kinds
use Rattle.text_tokens.specs.declared.faults.TextKind.{TextKind}
use Rattle.text_tokens.specs.declared.faults.TextKind.TheVariants as text_kind
use Rattle.rational_expressions.proofs.ValueLemmas.{at_place, moves, ran_more, refused_token, goes_on}
use Rattle.rational_expressions.proofs.ValueSteps.{performs_first, performs_next, performs_factor, performs_closing, performs_operand, performs_exponent, performs_opening, performs_raise, number_height, place_height_is}

-- one more, or not
abbrev pub with_one : Bool → ℕ → ℕ
with_one b n = cond b (n + 1) n

plus_one : (b : Bool) (m : ℕ) → m + (0 + cond b 1 0) ≡ with_one b m
plus_one true m = omega arith
plus_one false m = omega arith

pub count_push : (p : Token → Bool) (xs : List Token) (t : Token) → count_by p (xs ++ t ∷ []) ≡ with_one (p t) (count_by p xs)
count_push p xs t = sum_by-append (λ x. cond (p x) 1 0) xs (t ∷ []) ∙ plus_one (p t) (count_by p xs)

pub caret_push : (xs : List Token) (t : Token) → ends_in_caret (xs ++ t ∷ []) ≡ is_caret t
caret_push xs t = fold_push (λ (b : Bool) (u : Token). is_caret u) false xs t

performs_start : (names : List (List ℕ)) (outer : List Frame) (f : Frame) (n : ℕ) (old new : Reader) → f ≡ new_frame → Shows names (at_place outer (before_atom true f)) n old →
    (HasDone (action.Sign false) old new → MatchOption (from_start outer f.sum f.product plus_sign) (Unit {0}) (λ d. Shows names d (n + 1) new))
    × (HasDone (action.Sign true) old new → MatchOption (from_start outer f.sum f.product minus_sign) (Unit {0}) (λ d. Shows names d (n + 1) new))
performs_start names outer f n old new e shows =
    let P : Frame → Type 0 = λ q. Shows names (at_place outer (before_atom true q)) n old →
    (HasDone (action.Sign false) old new → MatchOption (from_start outer q.sum q.product plus_sign) (Unit {0}) (λ d. Shows names d (n + 1) new))
    × (HasDone (action.Sign true) old new → MatchOption (from_start outer q.sum q.product minus_sign) (Unit {0}) (λ d. Shows names d (n + 1) new)) in
    subst P (sym e) (λ s. (λ h. performs_first names outer n old new plus_sign false refl s h, λ h. performs_first names outer n old new minus_sign true refl s h)) shows

pub performs_at : (names : List (List ℕ)) (outer : List Frame) (p : Place) (t : Token) (n : ℕ) (old new : Reader) → IsFresh p → (is_opening t ≡ true → length outer < 32) →
    Shows names (at_place outer p) n old → HasDone (action_of names p t) old new →
    MatchOption (from_place outer p t) (Unit {0}) (λ d. Shows names d (with_one (is_sign t) n) new)
performs_at names outer (before_atom b f) (number ds) n old new fresh low s h =
    performs_operand names outer n old new b f (literal ds) (item.Number (number_of ds)) refl (λ xs k. number_height xs (number_of ds) k) s h
performs_at names outer (before_atom b f) (name w) n old new fresh low s h =
    performs_operand names outer n old new b f (variable w) (item.Place (place_of names w)) refl (λ xs k. place_height_is xs (place_of names w) k) s h
performs_at names outer (before_atom b f) opening n old new fresh low s h = performs_opening names outer n old new b f (low refl) s h
performs_at names outer (before_atom true f) plus n old new fresh low s h = (performs_start names outer f n old new fresh s).0 h
performs_at names outer (before_atom true f) minus n old new fresh low s h = (performs_start names outer f n old new fresh s).1 h
performs_at names outer (before_exponent f a) (number ds) n old new fresh low s h = performs_exponent names outer n old new f a ds s h
performs_at names outer (behind f w) star n old new fresh low s h = performs_factor names outer n old new f w (by (product_with f.product w)) refl refl s h
performs_at names outer (behind f w) (slash at) n old new fresh low s h = performs_factor names outer n old new f w (divided (product_with f.product w) at) refl refl s h
performs_at names outer (behind f w) plus n old new fresh low s h = performs_next names outer n old new f w plus_sign false refl s h
performs_at names outer (behind f w) minus n old new fresh low s h = performs_next names outer n old new f w minus_sign true refl s h
performs_at names (g ∷ outer) (behind f w) closing n old new fresh low s h = performs_closing names g outer n old new f w s h
performs_at names [] (behind f w) closing n old new fresh low s h = tt
performs_at names outer (behind f (plain a)) caret n old new fresh low s h = performs_raise names outer n old new f a s h
performs_at names outer (behind f (raised a ds)) caret n old new fresh low s h = tt
performs_at names outer p t n old new fresh low s h = tt

-- what a token that isn't blamed says of the tokens before it
low_blame : (a b : ℕ) → cond (ltb a (b + 32)) None (Some text_kind.TooDeep) ≡ None → a < b + 32
low_blame a b h = elim (cases_Bool (ltb a (b + 32))) [
  | inl t ↦ ltb-true a (b + 32) t
  | inr f ↦ let e : Some text_kind.TooDeep ≡ None = rw f at h in absurd (cc)
]

few_blame : (a : ℕ) → cond (ltb a 1000) None (Some text_kind.TooDeep) ≡ None → a < 1000
few_blame a h = elim (cases_Bool (ltb a 1000)) [
  | inl t ↦ ltb-true a 1000 t
  | inr f ↦ let e : Some text_kind.TooDeep ≡ None = rw f at h in absurd (cc)
]

opening_low : (names : List (List ℕ)) (before later : List Token) (t : Token) (n : ℕ) → value_blame names before t later ≡ None →
    count_by is_opening before ≡ n + count_by is_closing before → is_opening t ≡ true → n < 32
opening_low names before later opening n none opened is =
    let h : count_by is_opening before < count_by is_closing before + 32 = low_blame (count_by is_opening before) (count_by is_closing before) none in
    omega arith
opening_low names before later t n none opened is = absurd (cc)

few_more : (names : List (List ℕ)) (before later : List Token) (t : Token) → value_blame names before t later ≡ None → count_by is_sign before ≤ 1000 →
    with_one (is_sign t) (count_by is_sign before) ≤ 1000
few_more names before later plus none few = let h = few_blame (count_by is_sign before) none in omega (arith, h)
few_more names before later minus none few = let h = few_blame (count_by is_sign before) none in omega (arith, h)
few_more names before later star none few = let h = few_blame (count_by is_sign before) none in omega (arith, h)
few_more names before later (slash at) none few = let h = few_blame (count_by is_sign before) none in omega (arith, h)
few_more names before later caret none few = let h = few_blame (count_by is_sign before) none in omega (arith, h)
few_more names before later t none few = few

pub depth_more : (o c m n : ℕ) (a b : Bool) → o ≡ m + c → n + cond b 1 0 ≡ m + cond a 1 0 → with_one a o ≡ n + with_one b c
depth_more o c m n true true e f = omega arith
depth_more o c m n true false e f = omega arith
depth_more o c m n false true e f = omega arith
depth_more o c m n false false e f = omega arith

-- what is known after one token more
pub read_more : (names : List (List ℕ)) (before later : List Token) (old new : Reader) (t : Token) (h : HasRead names before old) (d : Context) →
    advance h.context t ≡ Some d → value_blame names before t later ≡ None → HasDone (action_of names h.context.place t) old new →
    HasRead names (before ++ t ∷ []) new
read_more names before later old new t h d next none done =
    let m = moves h.context d t next in
    let shown : Shows names d (with_one (is_sign t) (count_by is_sign before)) new =
    MatchOption-at_some (Unit {0}) (λ x. Shows names x (with_one (is_sign t) (count_by is_sign before)) new) d next
    (performs_at names h.context.outer h.context.place t (count_by is_sign before) old new h.fresh
    (opening_low names before later t (length h.context.outer) none h.opened) h.shows done) in
    record {
      context = d;
      ran = ran_more before h.context d t h.ran next;
      written = m.written ∙ ap (λ ts. ts ++ t ∷ []) h.written;
      fresh = m.fresh;
      opened = count_push is_opening before t
          ∙ depth_more (count_by is_opening before) (count_by is_closing before) (length h.context.outer) (length d.outer) (is_opening t) (is_closing t) h.opened m.depth
          ∙ ap (λ q. length d.outer + q) (sym (count_push is_closing before t));
      few = subst (λ q. q ≤ 1000) (sym (count_push is_sign before t)) (few_more names before later t none h.few);
      caret = caret_push before t ∙ sym m.exponent;
      shows = subst (λ q. Shows names d q new) (sym (count_push is_sign before t)) shown;
    }

-- the tokens that are accepted
pub accepts_at : (outer : List Frame) (p : Place) (k : Kind) (at : ℕ) (bs : List ℕ) → IsFresh p → accepts_of (mode_of p) (levels_of outer) k ≡ is_some (from_place outer p (token_of k at bs))
accepts_at outer (before_atom b f) kinds.Number at bs fresh = refl
accepts_at outer (before_atom b f) kinds.Name at bs fresh = refl
accepts_at outer (before_atom b f) kinds.Opening at bs fresh = refl
accepts_at outer (before_atom true f) kinds.Plus at bs fresh =
    let P : Frame → Type 0 = λ q. true ≡ is_some (from_start outer q.sum q.product plus_sign) in subst P (sym fresh) refl
accepts_at outer (before_atom true f) kinds.Minus at bs fresh =
    let P : Frame → Type 0 = λ q. true ≡ is_some (from_start outer q.sum q.product minus_sign) in subst P (sym fresh) refl
accepts_at outer (before_exponent f a) kinds.Number at bs fresh = refl
accepts_at outer (behind f (plain a)) kinds.Caret at bs fresh = refl
accepts_at [] (behind f (plain a)) kinds.Closing at bs fresh = refl
accepts_at [] (behind f (raised a ds)) kinds.Closing at bs fresh = refl
accepts_at (g ∷ outer) (behind f (plain a)) kinds.Closing at bs fresh = lt-ltb 0 _ (omega (arith, length_push (levels_of outer) (level_of g)))
accepts_at (g ∷ outer) (behind f (raised a ds)) kinds.Closing at bs fresh = lt-ltb 0 _ (omega (arith, length_push (levels_of outer) (level_of g)))
accepts_at outer (behind f (plain a)) kinds.Number at bs fresh = refl
accepts_at outer (behind f (raised a ds)) kinds.Number at bs fresh = refl
accepts_at outer p k at bs fresh = refl

pub accepts_is : (names : List (List ℕ)) (before : List Token) (r : Reader) (h : HasRead names before r) (k : Kind) (at : ℕ) (bs : List ℕ) →
    accepts_of r.mode r.outer.items k ≡ is_some (advance h.context (token_of k at bs))
accepts_is names before r h k at bs =
    ap (λ m. accepts_of m r.outer.items k) h.shows.mode ∙ ap (λ o. accepts_of (mode_of h.context.place) o k) h.shows.outer
    ∙ accepts_at h.context.outer h.context.place k at bs h.fresh

none_from : (o : Option Context) → is_some o ≡ false → o ≡ None
none_from None e = refl
none_from (Some c) e = absurd (cc)

some_from : (o : Option Context) → is_some o ≡ true → (d : Context) × (o ≡ Some d)
some_from None e = absurd (cc)
some_from (Some c) e = (c, refl)

-- a token that no value goes on with
pub token_refused : (names : List (List ℕ)) (before later : List Token) (r : Reader) (h : HasRead names before r) (t : Token) →
    is_some (advance h.context t) ≡ false → IsAtFault IsValueText (value_blame names) text_kind.BadExpression before t later text_kind.BadExpression
token_refused names before later r h t e = no_text (refused_token before h.context t h.ran (none_from (advance h.context t) e))

pub can_go_on : (names : List (List ℕ)) (before : List Token) (r : Reader) (h : HasRead names before r) (t : Token) (d : Context) →
    advance h.context t ≡ Some d → CanGoOn IsValueText (before ++ t ∷ [])
can_go_on names before r h t d next =
    subst (CanGoOn IsValueText) ((moves h.context d t next).written ∙ ap (λ ts. ts ++ t ∷ []) h.written) (goes_on d)

-- a token that is blamed
pub token_blamed : (names : List (List ℕ)) (before later : List Token) (r : Reader) (h : HasRead names before r) (t : Token) (k : TextKind) →
    is_some (advance h.context t) ≡ true → value_blame names before t later ≡ Some k → IsAtFault IsValueText (value_blame names) text_kind.BadExpression before t later k
token_blamed names before later r h t k e blame =
    let next = some_from (advance h.context t) e in
    blamed k (can_go_on names before r h t next.0 next.1) blame

-- a token that was taken
pub token_taken : (names : List (List ℕ)) (before later : List Token) (old new : Reader) (h : HasRead names before old) (t : Token) →
    is_some (advance h.context t) ≡ true → value_blame names before t later ≡ None → HasDone (action_of names h.context.place t) old new →
    CanGoOn IsValueText (before ++ t ∷ []) × HasRead names (before ++ t ∷ []) new
token_taken names before later old new h t e none done =
    let next = some_from (advance h.context t) e in
    (can_go_on names before old h t next.0 next.1, read_more names before later old new t h next.0 next.1 none done)

levels_length : (outer : List Frame) → length (levels_of outer) ≡ length outer
levels_length [] = refl
levels_length (f ∷ fs) = length_push (levels_of fs) (level_of f) ∙ omega (arith, levels_length fs)

pub opening_refused : (names : List (List ℕ)) (before later : List Token) (r : Reader) (k : Kind) (at : ℕ) (bs : List ℕ) →
    k ≡ kinds.Opening → 32 ≤ length r.outer.items → HasRead names before r → value_blame names before (token_of k at bs) later ≡ Some text_kind.TooDeep
opening_refused names before later r kinds.Opening at bs is high h =
    let size : length r.outer.items ≡ length h.context.outer = ap length h.shows.outer ∙ levels_length h.context.outer in
    rw (le-ltb (count_by is_opening before) (count_by is_closing before + 32) (omega (arith, h.opened))) refl
opening_refused names before later r k at bs is high h = absurd (cc)

pub opening_taken : (names : List (List ℕ)) (before later : List Token) (r : Reader) (k : Kind) (at : ℕ) (bs : List ℕ) →
    k ≡ kinds.Opening → length r.outer.items < 32 → (h : HasRead names before r) →
    (value_blame names before (token_of k at bs) later ≡ None) × (action.Open ≡ action_of names h.context.place (token_of k at bs))
opening_taken names before later r kinds.Opening at bs is low h =
    let size : length r.outer.items ≡ length h.context.outer = ap length h.shows.outer ∙ levels_length h.context.outer in
    (rw (lt-ltb (count_by is_opening before) (count_by is_closing before + 32) (omega (arith, h.opened))) refl, refl)
opening_taken names before later r k at bs is low h = absurd (cc)
