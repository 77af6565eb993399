-- Which tokens a value can go on with.
use Rattle.std.proofs.Common.{◌≡◌, ℕ, Bool, true, false, List, [], ◌∷◌, ◌++◌, Some, None, refl, sym, ap, ◌∙◌, append_assoc, append-nil, arith}
use Rattle.std.specs.Prelude.{fold, ◌+◌, length, if◌then◌else◌}
use Rattle.std.specs.Option.{MatchOption}
use Rattle.std.proofs.lemmas.Option.{MatchOption-at_some, same_Some}
use Rattle.std.proofs.lemmas.List.Sums.{fold-append, fold_push}
use Rattle.text_tokens.specs.Tokens.{Token, Sign, plus_sign, minus_sign, sign_token, number, name, plus, minus, star, slash, caret, opening, closing}
use Rattle.text_tokens.specs.Faults.{CanGoOn}
use Rattle.rational_expressions.specs.Values.{Sum, first, signed, more, Product, one, times, over, Power, plain, raised, Atom, literal, variable, group, sum_tokens, product_tokens, power_tokens, atom_tokens, is_opening, is_closing, is_caret, IsValueText}
use Rattle.rational_expressions.specs.ValueReader.{SumLead, empty, lone, after, ProductLead, bare, by, divided, Frame, new_frame, Place, before_atom, before_exponent, behind, Context, sum_lead_tokens, product_lead_tokens, frame_tokens, outer_tokens, place_tokens, context_tokens, product_with, sum_ending, sum_with, from_start, from_place, closed, raise, is_before_exponent, IsFresh, advance, step, start, run}

abbrev pub at_place : List Frame → Place → Context
at_place outer place = record { outer = outer; place = place }

abbrev frame : SumLead → ProductLead → Frame
frame l p = record { sum = l; product = p }

-- what was refused stays refused
pub step_none : (ts : List Token) → fold step None ts ≡ None
step_none [] = refl
step_none (t ∷ ts) = step_none ts

-- where a product ends
abbrev pub product_place : SumLead → Product → Place
product_place l (one w) = behind (frame l bare) w
product_place l (times p w) = behind (frame l (by p)) w
product_place l (over p at w) = behind (frame l (divided p at)) w

abbrev pub sum_place : Sum → Place
sum_place (first p) = product_place empty p
sum_place (signed s p) = product_place (lone s) p
sum_place (more m s p) = product_place (after m s) p

star_after : (outer : List Frame) (l : SumLead) (p : Product) → advance (at_place outer (product_place l p)) star ≡ Some (at_place outer (before_atom false (frame l (by p))))
star_after outer l (one w) = refl
star_after outer l (times p w) = refl
star_after outer l (over p at w) = refl

slash_after : (outer : List Frame) (l : SumLead) (p : Product) (at : ℕ) → advance (at_place outer (product_place l p)) (slash at) ≡ Some (at_place outer (before_atom false (frame l (divided p at))))
slash_after outer l (one w) at = refl
slash_after outer l (times p w) at = refl
slash_after outer l (over p q w) at = refl

sign_after_product : (outer : List Frame) (l : SumLead) (p : Product) (s : Sign) →
    advance (at_place outer (product_place l p)) (sign_token s) ≡ Some (at_place outer (before_atom false (frame (after (sum_ending l p) s) bare)))
sign_after_product outer l (one w) plus_sign = refl
sign_after_product outer l (one w) minus_sign = refl
sign_after_product outer l (times p w) plus_sign = refl
sign_after_product outer l (times p w) minus_sign = refl
sign_after_product outer l (over p at w) plus_sign = refl
sign_after_product outer l (over p at w) minus_sign = refl

sign_after : (outer : List Frame) (m : Sum) (s : Sign) → advance (at_place outer (sum_place m)) (sign_token s) ≡ Some (at_place outer (before_atom false (frame (after m s) bare)))
sign_after outer (first p) s = sign_after_product outer empty p s
sign_after outer (signed q p) s = sign_after_product outer (lone q) p s
sign_after outer (more m q p) s = sign_after_product outer (after m q) p s

closing_after_product : (f : Frame) (outer : List Frame) (l : SumLead) (p : Product) →
    advance (at_place (f ∷ outer) (product_place l p)) closing ≡ Some (at_place outer (behind f (plain (group (sum_ending l p)))))
closing_after_product f outer l (one w) = refl
closing_after_product f outer l (times p w) = refl
closing_after_product f outer l (over p at w) = refl

closing_after : (f : Frame) (outer : List Frame) (m : Sum) → advance (at_place (f ∷ outer) (sum_place m)) closing ≡ Some (at_place outer (behind f (plain (group m))))
closing_after f outer (first p) = closing_after_product f outer empty p
closing_after f outer (signed s p) = closing_after_product f outer (lone s) p
closing_after f outer (more m s p) = closing_after_product f outer (after m s) p

first_sign : (outer : List Frame) (s : Sign) → advance (at_place outer (before_atom true new_frame)) (sign_token s) ≡ Some (at_place outer (before_atom false (frame (lone s) bare)))
first_sign outer plus_sign = refl
first_sign outer minus_sign = refl

-- every text passes, from wherever it may stand
mutual
  pub sum_passes : (m : Sum) (outer : List Frame) → fold step (Some (at_place outer (before_atom true new_frame))) (sum_tokens m) ≡ Some (at_place outer (sum_place m))
  sum_passes (first p) outer = product_passes p outer true empty
  sum_passes (signed s p) outer =
      ap (λ o. fold step o (product_tokens p)) (first_sign outer s) ∙ product_passes p outer false (lone s)
  sum_passes (more m s p) outer =
      fold-append step (Some (at_place outer (before_atom true new_frame))) (sum_tokens m) (sign_token s ∷ product_tokens p)
      ∙ ap (λ o. fold step o (sign_token s ∷ product_tokens p)) (sum_passes m outer)
      ∙ ap (λ o. fold step o (product_tokens p)) (sign_after outer m s)
      ∙ product_passes p outer false (after m s)

  product_passes : (p : Product) (outer : List Frame) (b : Bool) (l : SumLead) → fold step (Some (at_place outer (before_atom b (frame l bare)))) (product_tokens p) ≡ Some (at_place outer (product_place l p))
  product_passes (one w) outer b l = power_passes w outer b (frame l bare)
  product_passes (times p w) outer b l =
      fold-append step (Some (at_place outer (before_atom b (frame l bare)))) (product_tokens p) (star ∷ power_tokens w)
      ∙ ap (λ o. fold step o (star ∷ power_tokens w)) (product_passes p outer b l)
      ∙ ap (λ o. fold step o (power_tokens w)) (star_after outer l p)
      ∙ power_passes w outer false (frame l (by p))
  product_passes (over p at w) outer b l =
      fold-append step (Some (at_place outer (before_atom b (frame l bare)))) (product_tokens p) (slash at ∷ power_tokens w)
      ∙ ap (λ o. fold step o (slash at ∷ power_tokens w)) (product_passes p outer b l)
      ∙ ap (λ o. fold step o (power_tokens w)) (slash_after outer l p at)
      ∙ power_passes w outer false (frame l (divided p at))

  power_passes : (w : Power) (outer : List Frame) (b : Bool) (f : Frame) → fold step (Some (at_place outer (before_atom b f))) (power_tokens w) ≡ Some (at_place outer (behind f w))
  power_passes (plain a) outer b f = atom_passes a outer b f
  power_passes (raised a ds) outer b f =
      fold-append step (Some (at_place outer (before_atom b f))) (atom_tokens a) (caret ∷ number ds ∷ [])
      ∙ ap (λ o. fold step o (caret ∷ number ds ∷ [])) (atom_passes a outer b f)

  atom_passes : (a : Atom) (outer : List Frame) (b : Bool) (f : Frame) → fold step (Some (at_place outer (before_atom b f))) (atom_tokens a) ≡ Some (at_place outer (behind f (plain a)))
  atom_passes (literal ds) outer b f = refl
  atom_passes (variable w) outer b f = refl
  atom_passes (group m) outer b f =
      fold-append step (Some (at_place (f ∷ outer) (before_atom true new_frame))) (sum_tokens m) (closing ∷ [])
      ∙ ap (λ o. fold step o (closing ∷ [])) (sum_passes m (f ∷ outer))
      ∙ closing_after f outer m

pub passes : (m : Sum) → run (sum_tokens m) ≡ Some (at_place [] (sum_place m))
passes m = sum_passes m []

-- so no value begins with what is refused
pub refused : (front : List Token) → run front ≡ None → CanGoOn IsValueText front → ⊥
refused front none go =
    let all : run (front ++ go.0) ≡ Some (at_place [] (sum_place go.1.0)) = ap run (sym go.1.1) ∙ passes go.1.0 in
    let cut : run (front ++ go.0) ≡ None = fold-append step (Some start) front go.0 ∙ ap (λ o. fold step o go.0) none ∙ step_none go.0 in
    cc

pub refused_token : (front : List Token) (c : Context) (t : Token) → run front ≡ Some c → advance c t ≡ None → CanGoOn IsValueText (front ++ t ∷ []) → ⊥
refused_token front c t was none =
    refused (front ++ t ∷ []) (fold_push step (Some start) front t ∙ ap (λ o. step o t) was ∙ none)

pub ran_more : (front : List Token) (c d : Context) (t : Token) → run front ≡ Some c → advance c t ≡ Some d → run (front ++ t ∷ []) ≡ Some d
ran_more front c d t was some = fold_push step (Some start) front t ∙ ap (λ o. step o t) was ∙ some

pub product_with_is : (l : ProductLead) (w : Power) → product_tokens (product_with l w) ≡ product_lead_tokens l ++ power_tokens w
product_with_is bare w = refl
product_with_is (by p) w = sym (append_assoc (product_tokens p) (star ∷ []) (power_tokens w))
product_with_is (divided p at) w = sym (append_assoc (product_tokens p) (slash at ∷ []) (power_tokens w))

pub sum_ending_is : (l : SumLead) (p : Product) → sum_tokens (sum_ending l p) ≡ sum_lead_tokens l ++ product_tokens p
sum_ending_is empty p = refl
sum_ending_is (lone s) p = refl
sum_ending_is (after m s) p = sym (append_assoc (sum_tokens m) (sign_token s ∷ []) (product_tokens p))

pub sum_with_is : (f : Frame) (w : Power) → sum_tokens (sum_with f w) ≡ frame_tokens f ++ power_tokens w
sum_with_is f w =
    sum_ending_is f.sum (product_with f.product w) ∙ ap (λ ts. sum_lead_tokens f.sum ++ ts) (product_with_is f.product w)
    ∙ sym (append_assoc (sum_lead_tokens f.sum) (product_lead_tokens f.product) (power_tokens w))

-- the sum that closes all parentheses
pub finish : List Frame → Sum → Sum
finish [] s = s
finish (f ∷ fs) s = finish fs (sum_with f (plain (group s)))

pub closings : List Frame → List Token
closings [] = []
closings (f ∷ fs) = closing ∷ closings fs

pub finish_is : (outer : List Frame) (s : Sum) → sum_tokens (finish outer s) ≡ (outer_tokens outer ++ sum_tokens s) ++ closings outer
unfolding finish closings
finish_is [] s = sym (append-nil (sum_tokens s))
finish_is (f ∷ fs) s =
    finish_is fs (sum_with f (plain (group s)))
    ∙ ap (λ ts. (outer_tokens fs ++ ts) ++ closings fs) (sum_with_is f (plain (group s)))
    ∙ simp append_assoc

pub goes_on : (c : Context) → CanGoOn IsValueText (context_tokens c)
goes_on c = go c.outer c.place
  where
    go : (outer : List Frame) (p : Place) → CanGoOn IsValueText (outer_tokens outer ++ place_tokens p)
    go outer (before_atom b f) = (
      number [] ∷ closings outer,
      (
        finish outer (sum_with f (plain (literal []))),
        finish_is outer (sum_with f (plain (literal [])))
            ∙ ap (λ ts. (outer_tokens outer ++ ts) ++ closings outer) (sum_with_is f (plain (literal [])))
            ∙ simp append_assoc,
      ),
    )
    go outer (before_exponent f a) = (
      number [] ∷ closings outer,
      (
        finish outer (sum_with f (raised a [])),
        finish_is outer (sum_with f (raised a []))
            ∙ ap (λ ts. (outer_tokens outer ++ ts) ++ closings outer) (sum_with_is f (raised a []))
            ∙ simp append_assoc,
      ),
    )
    go outer (behind f w) = (
      closings outer,
      (
        finish outer (sum_with f w),
        finish_is outer (sum_with f w)
            ∙ ap (λ ts. (outer_tokens outer ++ ts) ++ closings outer) (sum_with_is f w),
      ),
    )

-- what one token changes
pub record Moves (c : Context) (t : Token) (d : Context) : Type 0 where
  pub written : context_tokens d ≡ context_tokens c ++ t ∷ []
  pub depth : length d.outer + (if is_closing t then 1 else 0) ≡ length c.outer + (if is_opening t then 1 else 0)
  pub exponent : is_before_exponent d.place ≡ is_caret t
  pub fresh : IsFresh d.place

moves_start : (outer : List Frame) (l : SumLead) (p : ProductLead) (s : Sign) →
    MatchOption (from_start outer l p s) (Unit {0}) (λ d. Moves (at_place outer (before_atom true (frame l p))) (sign_token s) d)
moves_start outer empty bare plus_sign = record { written = sym (append_assoc (outer_tokens outer) [] (plus ∷ [])); depth = refl; exponent = refl; fresh = tt }
moves_start outer empty bare minus_sign = record { written = sym (append_assoc (outer_tokens outer) [] (minus ∷ [])); depth = refl; exponent = refl; fresh = tt }
moves_start outer l p s = tt

moves_closing : (outer : List Frame) (f : Frame) (w : Power) → MatchOption (closed outer f w) (Unit {0}) (λ d. Moves (at_place outer (behind f w)) closing d)
moves_closing [] f w = tt
moves_closing (g ∷ outer) f w = record {
  written = ap (λ ts. outer_tokens outer ++ (frame_tokens g ++ (opening ∷ (ts ++ closing ∷ [])))) (sum_with_is f w) ∙ simp append_assoc;
  depth = omega arith;
  exponent = refl;
  fresh = tt;
}

moves_caret : (outer : List Frame) (f : Frame) (w : Power) → MatchOption (raise outer f w) (Unit {0}) (λ d. Moves (at_place outer (behind f w)) caret d)
moves_caret outer f (plain a) = record { written = simp append_assoc; depth = refl; exponent = refl; fresh = tt }
moves_caret outer f (raised a ds) = tt

moves_from : (outer : List Frame) (p : Place) (t : Token) → MatchOption (from_place outer p t) (Unit {0}) (λ d. Moves (at_place outer p) t d)
moves_from outer (before_atom b f) (number ds) = record { written = simp append_assoc; depth = refl; exponent = refl; fresh = tt }
moves_from outer (before_atom b f) (name w) = record { written = simp append_assoc; depth = refl; exponent = refl; fresh = tt }
moves_from outer (before_atom b f) opening = record { written = append-nil _ ∙ simp append_assoc; depth = omega arith; exponent = refl; fresh = refl }
moves_from outer (before_atom true f) plus = moves_start outer f.sum f.product plus_sign
moves_from outer (before_atom true f) minus = moves_start outer f.sum f.product minus_sign
moves_from outer (before_exponent f a) (number ds) = record { written = simp append_assoc; depth = refl; exponent = refl; fresh = tt }
moves_from outer (behind f w) star = record {
  written = ap (λ ts. outer_tokens outer ++ (sum_lead_tokens f.sum ++ (ts ++ star ∷ []))) (product_with_is f.product w) ∙ simp append_assoc;
  depth = refl;
  exponent = refl;
  fresh = tt;
}
moves_from outer (behind f w) (slash at) = record {
  written = ap (λ ts. outer_tokens outer ++ (sum_lead_tokens f.sum ++ (ts ++ slash at ∷ []))) (product_with_is f.product w) ∙ simp append_assoc;
  depth = refl;
  exponent = refl;
  fresh = tt;
}
moves_from outer (behind f w) plus = record {
  written = ap (λ ts. outer_tokens outer ++ ((ts ++ plus ∷ []) ++ [])) (sum_with_is f w) ∙ simp (append-nil, append_assoc);
  depth = refl;
  exponent = refl;
  fresh = tt;
}
moves_from outer (behind f w) minus = record {
  written = ap (λ ts. outer_tokens outer ++ ((ts ++ minus ∷ []) ++ [])) (sum_with_is f w) ∙ simp (append-nil, append_assoc);
  depth = refl;
  exponent = refl;
  fresh = tt;
}
moves_from outer (behind f w) closing = moves_closing outer f w
moves_from outer (behind f w) caret = moves_caret outer f w
moves_from outer p t = tt

pub moves : (c d : Context) (t : Token) → advance c t ≡ Some d → Moves c t d
moves c d t e = MatchOption-at_some (Unit {0}) (λ x. Moves c t x) d e (moves_from c.outer c.place t)

-- a text is whole where no parenthesis is open behind a power
pub whole : (ts : List Token) (c : Context) → run ts ≡ Some c → IsValueText ts → (c.outer ≡ []) × (f : Frame) × (w : Power) × (c.place ≡ behind f w)
whole ts c was text =
    let e : Some (at_place [] (sum_place text.0)) ≡ Some c = sym (passes text.0) ∙ ap run text.1 ∙ was in
    let same : at_place [] (sum_place text.0) ≡ c = same_Some _ _ e in
    let place = ends text.0 in
    (sym (ap (λ q. q.outer) same), place.0, place.1, sym (ap (λ q. q.place) same) ∙ place.2)
  where
    product_ends : (l : SumLead) (p : Product) → (f : Frame) × (w : Power) × (product_place l p ≡ behind f w)
    product_ends l (one w) = (frame l bare, w, refl)
    product_ends l (times p w) = (frame l (by p), w, refl)
    product_ends l (over p at w) = (frame l (divided p at), w, refl)

    ends : (s : Sum) → (f : Frame) × (w : Power) × (sum_place s ≡ behind f w)
    ends (first p) = product_ends empty p
    ends (signed s p) = product_ends (lone s) p
    ends (more m s p) = product_ends (after m s) p

pub whole_sum : (f : Frame) (w : Power) (ts : List Token) → context_tokens (at_place [] (behind f w)) ≡ ts → sum_tokens (sum_with f w) ≡ ts
whole_sum f w ts e = sum_with_is f w ∙ e
