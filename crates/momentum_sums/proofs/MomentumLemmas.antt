-- Which tokens a momentum can go on with.
use Rattle.std.proofs.Common.{◌≡◌, List, [], ◌∷◌, ◌++◌, Some, None, refl, sym, ap, ◌∙◌, append_assoc, append-nil}
use Rattle.std.specs.Prelude.{fold}
use Rattle.std.proofs.lemmas.List.Sums.{fold-append, fold_push}
use Rattle.std.specs.Option.{MatchOption}
use Rattle.std.proofs.lemmas.Option.{MatchOption-at_some}
use Rattle.text_tokens.specs.Tokens.{Sign, plus_sign, minus_sign, sign_token, Token, number, name, plus, minus, star}
use Rattle.text_tokens.specs.Faults.{CanGoOn}
use Rattle.momentum_sums.specs.Momenta.{Term, bare, scaled, Terms, alone, signed, followed, term_tokens, terms_tokens, IsMomentumText}
use Rattle.momentum_sums.specs.MomentumReader.{follows, step, run, Lead, empty, lone, after, lead_tokens, IsReached}
use Rattle.momentum_sums.specs.declared.momentum_reader.Expected.{Expected}
use Rattle.momentum_sums.specs.declared.momentum_reader.Expected.TheVariants as expected

-- what was refused stays refused
pub step_none : (ts : List Token) → fold step None ts ≡ None
step_none [] = refl
step_none (t ∷ ts) = step_none ts

pub term_passes : (t : Term) → fold step (Some expected.Term) (term_tokens t) ≡ Some expected.Sign
term_passes (bare w) = refl
term_passes (scaled ds w) = refl

pub first_passes : (t : Term) → fold step (Some expected.Start) (term_tokens t) ≡ Some expected.Sign
first_passes (bare w) = refl
first_passes (scaled ds w) = refl

pub signed_passes : (s : Sign) (t : Term) → fold step (Some expected.Start) (sign_token s ∷ term_tokens t) ≡ Some expected.Sign
signed_passes plus_sign t = term_passes t
signed_passes minus_sign t = term_passes t

pub more_passes : (s : Sign) (t : Term) → fold step (Some expected.Sign) (sign_token s ∷ term_tokens t) ≡ Some expected.Sign
more_passes plus_sign t = term_passes t
more_passes minus_sign t = term_passes t

-- every momentum passes
pub passes : (m : Terms) → run (terms_tokens m) ≡ Some expected.Sign
passes (alone t) = first_passes t
passes (signed s t) = signed_passes s t
passes (followed m s t) =
    fold-append step (Some expected.Start) (terms_tokens m) (sign_token s ∷ term_tokens t)
    ∙ ap (λ o. fold step o (sign_token s ∷ term_tokens t)) (passes m) ∙ more_passes s t

-- so no momentum begins with what is refused
pub refused : (front : List Token) → run front ≡ None → CanGoOn IsMomentumText front → ⊥
refused front none go =
    let all : run (front ++ go.0) ≡ Some expected.Sign = ap run (sym go.1.1) ∙ passes go.1.0 in
    let cut : run (front ++ go.0) ≡ None = fold-append step (Some expected.Start) front go.0 ∙ ap (λ o. fold step o go.0) none ∙ step_none go.0 in
    cc

pub refused_token : (front : List Token) (e : Expected) (t : Token) → run front ≡ Some e → follows e t ≡ None → CanGoOn IsMomentumText (front ++ t ∷ []) → ⊥
refused_token front e t was none =
    refused (front ++ t ∷ []) (fold_push step (Some expected.Start) front t ∙ ap (λ o. step o t) was ∙ none)

pub ran_more : (front : List Token) (e d : Expected) (t : Token) → run front ≡ Some e → follows e t ≡ Some d → run (front ++ t ∷ []) ≡ Some d
ran_more front e d t was some = fold_push step (Some expected.Start) front t ∙ ap (λ o. step o t) was ∙ some

-- only where a sign may come is a momentum whole
pub whole : (ts : List Token) (e : Expected) → run ts ≡ Some e → IsMomentumText ts → e ≡ expected.Sign
whole ts e was text =
    let all : run ts ≡ Some expected.Sign = ap run (sym text.1) ∙ passes text.0 in cc

-- the momentum that a lead and a term make
pub complete : Lead → Term → Terms
complete empty t = alone t
complete (lone s) t = signed s t
complete (after m s) t = followed m s t

pub complete_is : (l : Lead) (t : Term) → terms_tokens (complete l t) ≡ lead_tokens l ++ term_tokens t
unfolding complete
complete_is empty t = refl
complete_is (lone s) t = refl
complete_is (after m s) t = sym (append_assoc (terms_tokens m) (sign_token s ∷ []) (term_tokens t))

pub goes_on : (e : Expected) (front : List Token) → IsReached e front → CanGoOn IsMomentumText front
goes_on expected.Start front r = (name [] ∷ [], (alone (bare []), ap (λ ts. ts ++ name [] ∷ []) (sym r)))
goes_on expected.Term front r =
    (name [] ∷ [], (complete r.0 (bare []), complete_is r.0 (bare []) ∙ ap (λ ts. ts ++ name [] ∷ []) (sym r.1)))
goes_on expected.Star front r = (
  star ∷ name [] ∷ [],
  (
    complete r.0 (scaled r.1 []),
    complete_is r.0 (scaled r.1 []) ∙ sym (append_assoc (lead_tokens r.0) (number r.1 ∷ []) (star ∷ name [] ∷ []))
        ∙ ap (λ ts. ts ++ star ∷ name [] ∷ []) (sym r.2),
  ),
)
goes_on expected.Name front r = (
  name [] ∷ [],
  (
    complete r.0 (scaled r.1 []),
    complete_is r.0 (scaled r.1 []) ∙ sym (append_assoc (lead_tokens r.0) (number r.1 ∷ star ∷ []) (name [] ∷ []))
        ∙ ap (λ ts. ts ++ name [] ∷ []) (sym r.2),
  ),
)
goes_on expected.Sign front r = ([], (r.0, sym r.1 ∙ sym (append-nil front)))

-- one token more
reached_after : (e : Expected) (t : Token) (front : List Token) → IsReached e front → MatchOption (follows e t) (Unit {0}) (λ d. IsReached d (front ++ t ∷ []))
reached_after expected.Start plus front r = (lone plus_sign, ap (λ ts. ts ++ plus ∷ []) r)
reached_after expected.Start minus front r = (lone minus_sign, ap (λ ts. ts ++ minus ∷ []) r)
reached_after expected.Start (number ds) front r = (empty, ds, ap (λ ts. ts ++ number ds ∷ []) r)
reached_after expected.Start (name w) front r = (alone (bare w), ap (λ ts. ts ++ name w ∷ []) r)
reached_after expected.Term (number ds) front r = (r.0, ds, ap (λ ts. ts ++ number ds ∷ []) r.1)
reached_after expected.Term (name w) front r =
    (complete r.0 (bare w), ap (λ ts. ts ++ name w ∷ []) r.1 ∙ sym (complete_is r.0 (bare w)))
reached_after expected.Star star front r =
    (r.0, r.1, ap (λ ts. ts ++ star ∷ []) r.2 ∙ append_assoc (lead_tokens r.0) (number r.1 ∷ []) (star ∷ []))
reached_after expected.Name (name w) front r = (
  complete r.0 (scaled r.1 w),
  ap (λ ts. ts ++ name w ∷ []) r.2 ∙ append_assoc (lead_tokens r.0) (number r.1 ∷ star ∷ []) (name w ∷ [])
      ∙ sym (complete_is r.0 (scaled r.1 w)),
)
reached_after expected.Sign plus front r = (after r.0 plus_sign, ap (λ ts. ts ++ plus ∷ []) r.1)
reached_after expected.Sign minus front r = (after r.0 minus_sign, ap (λ ts. ts ++ minus ∷ []) r.1)
reached_after e t front r = tt

pub reached_more : (e d : Expected) (front : List Token) (t : Token) → IsReached e front → follows e t ≡ Some d → IsReached d (front ++ t ∷ [])
reached_more e d front t r f =
    MatchOption-at_some (Unit {0}) (λ d. IsReached d (front ++ t ∷ [])) d f (reached_after e t front r)
