-- What the reader of values keeps while it goes through the tokens. Private contracts speak of it.
use Rattle.std.specs.Prelude.{◌≡◌, ℕ, Bool, true, false, Option, Some, None, List, [], ◌∷◌, ◌++◌, fold, option_and_then}
use Rattle.text_tokens.specs.Tokens.{Token, Sign, plus_sign, minus_sign, sign_token, number, name, plus, minus, star, slash, caret, opening, closing}
use Rattle.rational_expressions.specs.Values.{Sum, first, signed, more, Product, one, times, over, Power, plain, raised, Atom, literal, variable, group, sum_tokens, product_tokens, power_tokens, atom_tokens}

-- what stands before a product: nothing, a first sign, or a sum and a sign
pub data SumLead : Type 0 where
  empty : SumLead
  lone : Sign → SumLead
  after : Sum → Sign → SumLead

-- what stands before a power in its product: nothing, or a product and "*" or "/"
pub data ProductLead : Type 0 where
  bare : ProductLead
  by : Product → ProductLead
  divided : Product → (at : ℕ) → ProductLead

-- a sum that goes on: what stands before its next power
pub record Frame : Type 0 where
  pub sum : SumLead
  pub product : ProductLead

abbrev pub new_frame : Frame
new_frame = record { sum = empty; product = bare }

-- where the reader is in the innermost sum: before an atom, which a sign may still come before, behind
-- the "^" of an atom, or behind a power
pub data Place : Type 0 where
  before_atom : (sign_allowed : Bool) → Frame → Place
  before_exponent : Frame → Atom → Place
  behind : Frame → Power → Place

-- the sums that the open parentheses interrupt, the innermost first, and the place in the innermost sum
pub record Context : Type 0 where
  pub outer : List Frame
  pub place : Place

-- how each is written
abbrev pub sum_lead_tokens : SumLead → List Token
sum_lead_tokens empty = []
sum_lead_tokens (lone s) = sign_token s ∷ []
sum_lead_tokens (after m s) = sum_tokens m ++ sign_token s ∷ []

abbrev pub product_lead_tokens : ProductLead → List Token
product_lead_tokens bare = []
product_lead_tokens (by p) = product_tokens p ++ star ∷ []
product_lead_tokens (divided p at) = product_tokens p ++ slash at ∷ []

abbrev pub frame_tokens : Frame → List Token
frame_tokens f = sum_lead_tokens f.sum ++ product_lead_tokens f.product

abbrev pub outer_tokens : List Frame → List Token
outer_tokens [] = []
outer_tokens (f ∷ fs) = outer_tokens fs ++ (frame_tokens f ++ opening ∷ [])

abbrev pub place_tokens : Place → List Token
place_tokens (before_atom b f) = frame_tokens f
place_tokens (before_exponent f a) = frame_tokens f ++ (atom_tokens a ++ caret ∷ [])
place_tokens (behind f w) = frame_tokens f ++ power_tokens w

abbrev pub context_tokens : Context → List Token
context_tokens c = outer_tokens c.outer ++ place_tokens c.place

-- the product and the sum that end with a power
abbrev pub product_with : ProductLead → Power → Product
product_with bare w = one w
product_with (by p) w = times p w
product_with (divided p at) w = over p at w

abbrev pub sum_ending : SumLead → Product → Sum
sum_ending empty p = first p
sum_ending (lone s) p = signed s p
sum_ending (after m s) p = more m s p

abbrev pub sum_with : Frame → Power → Sum
sum_with f w = sum_ending f.sum (product_with f.product w)

-- where a token leads from each place
abbrev pub from_start : List Frame → SumLead → ProductLead → Sign → Option Context
from_start outer empty bare s = Some (record { outer = outer; place = before_atom false (record { sum = lone s; product = bare }) })
from_start outer l p s = None

abbrev pub from_atom : List Frame → Bool → Frame → Token → Option Context
from_atom outer b f (number ds) = Some (record { outer = outer; place = behind f (plain (literal ds)) })
from_atom outer b f (name w) = Some (record { outer = outer; place = behind f (plain (variable w)) })
from_atom outer b f opening = Some (record { outer = f ∷ outer; place = before_atom true new_frame })
from_atom outer true f plus = from_start outer f.sum f.product plus_sign
from_atom outer true f minus = from_start outer f.sum f.product minus_sign
from_atom outer b f t = None

abbrev pub from_exponent : List Frame → Frame → Atom → Token → Option Context
from_exponent outer f a (number ds) = Some (record { outer = outer; place = behind f (raised a ds) })
from_exponent outer f a t = None

abbrev pub closed : List Frame → Frame → Power → Option Context
closed [] f w = None
closed (g ∷ outer) f w = Some (record { outer = outer; place = behind g (plain (group (sum_with f w))) })

abbrev pub raise : List Frame → Frame → Power → Option Context
raise outer f (plain a) = Some (record { outer = outer; place = before_exponent f a })
raise outer f (raised a ds) = None

abbrev pub from_power : List Frame → Frame → Power → Token → Option Context
from_power outer f w star = Some (record { outer = outer; place = before_atom false (record { sum = f.sum; product = by (product_with f.product w) }) })
from_power outer f w (slash at) = Some (record { outer = outer; place = before_atom false (record { sum = f.sum; product = divided (product_with f.product w) at }) })
from_power outer f w plus = Some (record { outer = outer; place = before_atom false (record { sum = after (sum_with f w) plus_sign; product = bare }) })
from_power outer f w minus = Some (record { outer = outer; place = before_atom false (record { sum = after (sum_with f w) minus_sign; product = bare }) })
from_power outer f w closing = closed outer f w
from_power outer f w caret = raise outer f w
from_power outer f w t = None

abbrev pub from_place : List Frame → Place → Token → Option Context
from_place outer (before_atom b f) t = from_atom outer b f t
from_place outer (before_exponent f a) t = from_exponent outer f a t
from_place outer (behind f w) t = from_power outer f w t

abbrev pub advance : Context → Token → Option Context
advance c t = from_place c.outer c.place t

abbrev pub step : Option Context → Token → Option Context
step o t = option_and_then (λ c. advance c t) o

abbrev pub start : Context
start = record { outer = []; place = before_atom true new_frame }

-- where the tokens lead, if a value may begin with them
abbrev pub run : List Token → Option Context
run ts = fold step (Some start) ts

abbrev pub is_before_exponent : Place → Bool
is_before_exponent (before_atom b f) = false
is_before_exponent (before_exponent f a) = true
is_before_exponent (behind f w) = false

-- where a first sign may come, nothing has come yet
abbrev pub IsFresh : Place → Type 0
IsFresh (before_atom true f) = f ≡ new_frame
IsFresh p = Unit {0}
