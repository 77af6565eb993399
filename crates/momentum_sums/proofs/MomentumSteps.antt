-- One token of a momentum: what the reader keeps after it, and the fault that it may have.
use Rattle.std.proofs.Common.{◌≡◌, ◌≤◌, ◌^◌, ℕ, Bool, true, false, Some, None, List, [], ◌∷◌, ◌++◌, arith, refl, sym, ap}
use Rattle.std.specs.Option.{MatchOption}
use Rattle.std.proofs.lemmas.Option.{MatchOption-at_some}
use Rattle.std.proofs.lemmas.Bool.{lt-leb, le-ltb}
use Rattle.text_tokens.specs.Tokens.{Token, number, name, plus, minus, star, number_of}
use Rattle.text_tokens.specs.Pieces.{token_of}
use Rattle.text_tokens.specs.Faults.{IsAtFault, no_text, blamed}
use Rattle.momentum_sums.specs.Momenta.{momentum_blame, IsMomentumText}
use Rattle.momentum_sums.specs.MomentumReader.{follows, IsTallied, HasRead}
use Rattle.momentum_sums.specs.declared.momentum_reader.Tally.{Tally}
use Rattle.momentum_sums.specs.declared.momentum_reader.Progress.{Progress}
use Rattle.momentum_sums.specs.declared.momentum_reader.Expected.{Expected}
use Rattle.momentum_sums.specs.declared.momentum_reader.Expected.TheVariants as expected
use Rattle.text_tokens.specs.declared.tokens.Kind.{Kind}
use Rattle.text_tokens.specs.declared.tokens.Kind.TheVariants as kinds
use Rattle.text_tokens.specs.declared.faults.TextKind.{TextKind}
use Rattle.text_tokens.specs.declared.faults.TextKind.TheVariants as text_kind
use Rattle.momentum_sums.proofs.MomentumLemmas.{reached_more, ran_more, refused_token, goes_on}
use Rattle.momentum_sums.proofs.TallyLemmas.{tallied_sign, tallied_number, tallied_star}

pub read_more : (names : List (List ℕ)) (before : List Token) (p : Progress) (old new : List Tally) (t : Token) (e : Expected) (b : Bool) (f : ℕ) →
    follows p.expected t ≡ Some e → HasRead names before p old → IsTallied names (before ++ t ∷ []) b f new →
    HasRead names (before ++ t ∷ []) (record { expected = e; is_negative = b; factor = f }) new
read_more names before p old new t e b f next h s = record {
  reached = reached_more p.expected e before t h.reached next;
  ran = ran_more before p.expected e t h.ran next;
  tallied = s;
}

pub number_done : (names : List (List ℕ)) (before after : List Token) (p : Progress) (old : List Tally) (e : Expected) (k : Kind) (at : ℕ) (bs : List ℕ) (n : ℕ) →
    k ≡ kinds.Number → follows p.expected (token_of k at bs) ≡ Some e → n ≡ number_of bs → n ≤ 1000 → HasRead names before p old →
    (momentum_blame names before (token_of k at bs) after ≡ None)
    × HasRead names (before ++ token_of k at bs ∷ []) (record { expected = e; is_negative = p.is_negative; factor = n }) old
number_done names before after p old e kinds.Number at bs n same next is small h = (
  rw (lt-leb (2 ^ 128) (number_of bs) (omega arith), le-ltb 1000 (number_of bs) (omega arith)) refl,
  read_more names before p old old (number bs) e p.is_negative n next h
      (tallied_number names before p.is_negative p.factor old (number bs) n small (λ w s. ap (λ q. record s { factor = q }) (sym is)) h.tallied),
)
number_done names before after p old e k at bs n same next is small h = absurd (cc)

pub name_done : (names : List (List ℕ)) (before after : List Token) (p : Progress) (old new : List Tally) (e : Expected) (k : Kind) (at : ℕ) (bs : List ℕ) →
    k ≡ kinds.Name → follows p.expected (token_of k at bs) ≡ Some e →
    ((momentum_blame names before (name bs) after ≡ None) × IsTallied names (before ++ name bs ∷ []) p.is_negative p.factor new) → HasRead names before p old →
    (momentum_blame names before (token_of k at bs) after ≡ None)
    × HasRead names (before ++ token_of k at bs ∷ []) (record { expected = e; is_negative = p.is_negative; factor = p.factor }) new
name_done names before after p old new e kinds.Name at bs same next done h =
    (done.0, read_more names before p old new (name bs) e p.is_negative p.factor next h done.1)
name_done names before after p old new e k at bs same next done h = absurd (cc)

pub plus_done : (names : List (List ℕ)) (before after : List Token) (p : Progress) (old : List Tally) (e : Expected) (k : Kind) (at : ℕ) (bs : List ℕ) →
    k ≡ kinds.Plus → follows p.expected (token_of k at bs) ≡ Some e → HasRead names before p old →
    (momentum_blame names before (token_of k at bs) after ≡ None)
    × HasRead names (before ++ token_of k at bs ∷ []) (record { expected = e; is_negative = false; factor = 1 }) old
plus_done names before after p old e kinds.Plus at bs same next h = (
  refl,
  read_more names before p old old plus e false 1 next h
      (tallied_sign names before p.is_negative p.factor old plus false (λ w s. refl) h.tallied),
)
plus_done names before after p old e k at bs same next h = absurd (cc)

pub minus_done : (names : List (List ℕ)) (before after : List Token) (p : Progress) (old : List Tally) (e : Expected) (k : Kind) (at : ℕ) (bs : List ℕ) →
    k ≡ kinds.Minus → follows p.expected (token_of k at bs) ≡ Some e → HasRead names before p old →
    (momentum_blame names before (token_of k at bs) after ≡ None)
    × HasRead names (before ++ token_of k at bs ∷ []) (record { expected = e; is_negative = true; factor = 1 }) old
minus_done names before after p old e kinds.Minus at bs same next h = (
  refl,
  read_more names before p old old minus e true 1 next h
      (tallied_sign names before p.is_negative p.factor old minus true (λ w s. refl) h.tallied),
)
minus_done names before after p old e k at bs same next h = absurd (cc)

-- the kinds that a momentum has
IsKnown : Kind → Type 0
IsKnown kinds.Slash = ⊥
IsKnown kinds.Caret = ⊥
IsKnown kinds.Opening = ⊥
IsKnown kinds.Closing = ⊥
IsKnown kinds.Other = ⊥
IsKnown k = Unit {0}

follows_known : (e : Expected) (k : Kind) (at : ℕ) (bs : List ℕ) → MatchOption (follows e (token_of k at bs)) (Unit {0}) (λ _. IsKnown k)
unfolding IsKnown
follows_known expected.Start kinds.Plus at bs = tt
follows_known expected.Start kinds.Minus at bs = tt
follows_known expected.Start kinds.Number at bs = tt
follows_known expected.Start kinds.Name at bs = tt
follows_known expected.Term kinds.Number at bs = tt
follows_known expected.Term kinds.Name at bs = tt
follows_known expected.Star kinds.Star at bs = tt
follows_known expected.Name kinds.Name at bs = tt
follows_known expected.Sign kinds.Plus at bs = tt
follows_known expected.Sign kinds.Minus at bs = tt
follows_known e k at bs = tt

pub star_done : (names : List (List ℕ)) (before after : List Token) (p : Progress) (old : List Tally) (e : Expected) (k : Kind) (at : ℕ) (bs : List ℕ) →
    (k ≡ kinds.Number → ⊥) → (k ≡ kinds.Name → ⊥) → (k ≡ kinds.Plus → ⊥) → (k ≡ kinds.Minus → ⊥) →
    follows p.expected (token_of k at bs) ≡ Some e → HasRead names before p old →
    (momentum_blame names before (token_of k at bs) after ≡ None)
    × HasRead names (before ++ token_of k at bs ∷ []) (record { expected = e; is_negative = p.is_negative; factor = p.factor }) old
unfolding IsKnown
star_done names before after p old e kinds.Star at bs a b c d next h =
    (refl, read_more names before p old old star e p.is_negative p.factor next h (tallied_star names before p.is_negative p.factor old h.tallied))
star_done names before after p old e kinds.Number at bs a b c d next h = absurd (a refl)
star_done names before after p old e kinds.Name at bs a b c d next h = absurd (b refl)
star_done names before after p old e kinds.Plus at bs a b c d next h = absurd (c refl)
star_done names before after p old e kinds.Minus at bs a b c d next h = absurd (d refl)
star_done names before after p old e kinds.Slash at bs a b c d next h =
    absurd (MatchOption-at_some (Unit {0}) (λ _. ⊥) e next (follows_known p.expected kinds.Slash at bs))
star_done names before after p old e kinds.Caret at bs a b c d next h =
    absurd (MatchOption-at_some (Unit {0}) (λ _. ⊥) e next (follows_known p.expected kinds.Caret at bs))
star_done names before after p old e kinds.Opening at bs a b c d next h =
    absurd (MatchOption-at_some (Unit {0}) (λ _. ⊥) e next (follows_known p.expected kinds.Opening at bs))
star_done names before after p old e kinds.Closing at bs a b c d next h =
    absurd (MatchOption-at_some (Unit {0}) (λ _. ⊥) e next (follows_known p.expected kinds.Closing at bs))
star_done names before after p old e kinds.Other at bs a b c d next h =
    absurd (MatchOption-at_some (Unit {0}) (λ _. ⊥) e next (follows_known p.expected kinds.Other at bs))

-- a token that no momentum goes on with
pub token_refused : (names : List (List ℕ)) (before after : List Token) (p : Progress) (old : List Tally) (t : Token) →
    follows p.expected t ≡ None → HasRead names before p old →
    IsAtFault IsMomentumText (momentum_blame names) text_kind.BadMomentum before t after text_kind.BadMomentum
token_refused names before after p old t none h = no_text (refused_token before p.expected t h.ran none)

-- a token that is blamed
pub token_blamed : (names : List (List ℕ)) (before after : List Token) (p : Progress) (old : List Tally) (t : Token) (e : Expected) (k : TextKind) →
    follows p.expected t ≡ Some e → momentum_blame names before t after ≡ Some k → HasRead names before p old →
    IsAtFault IsMomentumText (momentum_blame names) text_kind.BadMomentum before t after k
token_blamed names before after p old t e k next blame h =
    blamed k (goes_on e (before ++ t ∷ []) (reached_more p.expected e before t h.reached next)) blame

pub number_blamed : (names : List (List ℕ)) (before after : List Token) (k : Kind) (at : ℕ) (bs : List ℕ) (q : TextKind) → k ≡ kinds.Number →
    momentum_blame names before (number bs) after ≡ Some q → momentum_blame names before (token_of k at bs) after ≡ Some q
number_blamed names before after kinds.Number at bs q same h = h
number_blamed names before after k at bs q same h = absurd (cc)

pub name_blamed : (names : List (List ℕ)) (before after : List Token) (k : Kind) (at : ℕ) (bs : List ℕ) (q : TextKind) → k ≡ kinds.Name →
    momentum_blame names before (name bs) after ≡ Some q → momentum_blame names before (token_of k at bs) after ≡ Some q
name_blamed names before after kinds.Name at bs q same h = h
name_blamed names before after k at bs q same h = absurd (cc)
