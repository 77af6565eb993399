-- Lists of terms from the greatest integral to the least, and the sums of their coefficients.
use Rattle.std.proofs.Common.{◌≡◌, ◌≢◌, ℕ, suc, ◌+◌, ◌<◌, ◌≤◌, true, false, cond, List, [], ◌∷◌, ◌++◌, length, get_or, refl, sym, ap, ◌∙◌, inl, inr, arith, add-zero, ◌-◌, take, subst, get_or-take, length-take-le}
use Rattle.std.specs.Prelude.{AllPairs}
use Rattle.std.specs.List.{AllByRecursion}
use Rattle.std.specs.declared.cmp.Ordering.{Ordering}
use Rattle.std.specs.declared.cmp.Ordering.TheVariants.{Less, Equal, Greater}
use Rattle.std.specs.Ordering.{ordering_reverse, is_eq, eq_by_cmp}
use Rattle.std.proofs.lemmas.Bool.{cases_lt}
use Rattle.std.proofs.lemmas.Cmp.{tied_itself}
use Rattle.std.proofs.lemmas.List.{get_or_default, take_more}
use Rattle.std.proofs.lemmas.List.Quantifiers.{all_pairs_push}
use Rattle.std.proofs.lemmas.List.Kept.{AllPairs-cons}
use Rattle.std.proofs.lemmas.List.Elements.{All-from_recursion, recursion_from_All}
use Rattle.std.proofs.lemmas.List.Sums.{sum_by-cons, sum_by-append}
use Rattle.integral_index.specs.declared.Order.{Order}
use Rattle.integral_index.specs.Integral.{Integral}
use Rattle.integral_index.specs.Order.{by_fields, compare}
use Rattle.integral_index.proofs.Orders.{by_fields-total, by_fields-IsAntisymmetric, compare-total, compare-IsAntisymmetric}
use Rattle.sparse_row.specs.declared.Term.{Term}
use Rattle.sparse_row.specs.Terms.{coefficient_at, total_at, IsAbove}

-- ---- the order

pub Less-from_Greater : (order : Order) (x y : Integral) → compare order x y ≡ Greater → compare order y x ≡ Less
Less-from_Greater order x y h = (compare-total order).antisymm y x ∙ ap ordering_reverse h

pub Greater-from_Less : (order : Order) (x y : Integral) → compare order x y ≡ Less → compare order y x ≡ Greater
Greater-from_Less order x y h = (compare-total order).antisymm y x ∙ ap ordering_reverse h

pub Greater-trans : (order : Order) (x y z : Integral) → compare order x y ≡ Greater → compare order y z ≡ Greater → compare order x z ≡ Greater
Greater-trans order x y z h g =
    (compare-total order).antisymm x z
    ∙ ap ordering_reverse ((compare-total order).trans z y x (Less-from_Greater order y z g) (Less-from_Greater order x y h))

pub differ-from_Greater : (order : Order) (x y : Integral) → compare order x y ≡ Greater → x ≢ y
differ-from_Greater order x y h e = let itself = tied_itself (compare-total order) x in absurd (cc)

-- ---- the coefficient of one term

eq_by_fields-other : (x y : Integral) (o : Ordering) → by_fields x y ≡ o → x ≢ y → is_eq o ≡ false
eq_by_fields-other x y Less e differ = refl
eq_by_fields-other x y Equal e differ = absurd (differ (by_fields-IsAntisymmetric x y e))
eq_by_fields-other x y Greater e differ = refl

pub eq_by_fields-differ : (x y : Integral) → x ≢ y → eq_by_cmp by_fields x y ≡ false
eq_by_fields-differ x y differ = eq_by_fields-other x y (by_fields x y) refl differ

pub eq_by_fields-itself : (x : Integral) → eq_by_cmp by_fields x x ≡ true
eq_by_fields-itself x = ap is_eq (tied_itself by_fields-total x)

pub coefficient_at-itself : (t : Term) → coefficient_at t.integral t ≡ t.coefficient
coefficient_at-itself t = ap (λ b. cond b t.coefficient 0) (eq_by_fields-itself t.integral)

pub coefficient_at-same : (x : Integral) (t : Term) → x ≡ t.integral → coefficient_at x t ≡ t.coefficient
coefficient_at-same x t e = ap (λ y. coefficient_at y t) e ∙ coefficient_at-itself t

pub coefficient_at-other : (x : Integral) (t : Term) → x ≢ t.integral → coefficient_at x t ≡ 0
coefficient_at-other x t differ = ap (λ b. cond b t.coefficient 0) (eq_by_fields-differ x t.integral differ)

-- x is a given integral or another
pub by_integrals : {G : Type 0} (x y : Integral) → (x ≡ y → G) → (x ≢ y → G) → G
by_integrals {G} x y same other = go (by_fields x y) refl
  where
    go : (o : Ordering) → by_fields x y ≡ o → G
    go Equal e = same (by_fields-IsAntisymmetric x y e)
    go Less e = other (λ s. let itself = tied_itself by_fields-total x in absurd (cc))
    go Greater e = other (λ s. let itself = tied_itself by_fields-total x in absurd (cc))

-- ---- sums

pub total_at-cons : (x : Integral) (t : Term) (ts : List Term) → total_at x (t ∷ ts) ≡ coefficient_at x t + total_at x ts
total_at-cons x t ts = sum_by-cons (λ term. coefficient_at x term) t ts

pub total_at-append : (x : Integral) (ts us : List Term) → total_at x (ts ++ us) ≡ total_at x ts + total_at x us
total_at-append x ts us = sum_by-append (λ term. coefficient_at x term) ts us

pub total_at-one : (x : Integral) (t : Term) → total_at x (t ∷ []) ≡ coefficient_at x t
total_at-one x t = total_at-cons x t [] ∙ add-zero _

-- ---- what holds of each term

pub each-weaker : {P Q : Term → Type 0} → ((t : Term) → P t → Q t) → (ts : List Term) → AllByRecursion P ts → AllByRecursion Q ts
each-weaker f [] h = tt
each-weaker f (t ∷ ts) h = (f t h.0, each-weaker f ts h.1)

pub each-both : {P Q R : Term → Type 0} → ((t : Term) → P t → Q t → R t) → (ts : List Term) → AllByRecursion P ts → AllByRecursion Q ts → AllByRecursion R ts
each-both f [] h g = tt
each-both f (t ∷ ts) h g = (f t h.0 g.0, each-both f ts h.1 g.1)

pub each-append : (P : Term → Type 0) (ts us : List Term) → AllByRecursion P ts → AllByRecursion P us → AllByRecursion P (ts ++ us)
each-append P [] us h g = g
each-append P (t ∷ ts) us h g = (h.0, each-append P ts us h.1 g)

pub each-front : (P : Term → Type 0) (ts us : List Term) → AllByRecursion P (ts ++ us) → AllByRecursion P ts
each-front P [] us h = tt
each-front P (t ∷ ts) us h = (h.0, each-front P ts us h.1)

pub each-back : (P : Term → Type 0) (ts us : List Term) → AllByRecursion P (ts ++ us) → AllByRecursion P us
each-back P [] us h = h
each-back P (t ∷ ts) us h = each-back P ts us h.1

-- t is above the other
abbrev Under : Order → Term → Term → Type 0
Under order t u = compare order t.integral u.integral ≡ Greater

-- x is above each term
abbrev pub AllUnder : Order → Integral → List Term → Type 0
AllUnder order x ts = AllByRecursion (λ t. compare order x t.integral ≡ Greater) ts

-- each term is above x
abbrev pub AllOver : Order → Integral → List Term → Type 0
AllOver order x ts = AllByRecursion (λ t. compare order t.integral x ≡ Greater) ts

pub AllUnder-lower : (order : Order) (x y : Integral) (ts : List Term) → compare order x y ≡ Greater → AllUnder order y ts → AllUnder order x ts
AllUnder-lower order x y ts h = each-weaker (λ t g. Greater-trans order x y t.integral h g) ts

-- a term of x is none of these
pub total_at-none : (x : Integral) (ts : List Term) → AllByRecursion (λ t. x ≢ t.integral) ts → total_at x ts ≡ 0
total_at-none x [] h = refl
total_at-none x (t ∷ ts) h = total_at-cons x t ts ∙ (λ i. coefficient_at-other x t h.0 i + total_at-none x ts h.1 i)

pub total_at-under : (order : Order) (x : Integral) (ts : List Term) → AllUnder order x ts → total_at x ts ≡ 0
total_at-under order x ts h = total_at-none x ts (each-weaker (λ t g. differ-from_Greater order x t.integral g) ts h)

pub total_at-over : (order : Order) (x : Integral) (ts : List Term) → AllOver order x ts → total_at x ts ≡ 0
total_at-over order x ts h = total_at-none x ts (each-weaker (λ t g e. differ-from_Greater order t.integral x g (sym e)) ts h)

-- ---- lists that descend, by recursion

abbrev pub Descends : Order → List Term → Type 0
Descends order [] = Unit {0}
Descends order (t ∷ ts) = AllUnder order t.integral ts × Descends order ts

pub Descends-from_pairs : (order : Order) (ts : List Term) → AllPairs (IsAbove order) ts → Descends order ts
Descends-from_pairs order [] h = tt
Descends-from_pairs order (t ∷ ts) h = (
  recursion_from_All (Under order t) ts (λ k d below. h 0 (suc k) d (omega arith) (omega arith)),
  Descends-from_pairs order ts (λ i j d less below. h (suc i) (suc j) d (omega arith) (omega arith)),
)

pub pairs_from_Descends : (order : Order) (ts : List Term) → Descends order ts → AllPairs (IsAbove order) ts
pairs_from_Descends order [] h = λ i j d less below. absurd (omega arith)
pairs_from_Descends order (t ∷ ts) h = AllPairs-cons (IsAbove order) t ts (All-from_recursion (Under order t) ts h.0) (pairs_from_Descends order ts h.1)

pub Descends-front : (order : Order) (ts us : List Term) → Descends order (ts ++ us) → Descends order ts
Descends-front order [] us h = tt
Descends-front order (t ∷ ts) us h = (each-front (Under order t) ts us h.0, Descends-front order ts us h.1)

pub Descends-back : (order : Order) (ts us : List Term) → Descends order (ts ++ us) → Descends order us
Descends-back order [] us h = h
Descends-back order (t ∷ ts) us h = Descends-back order ts us h.1

-- what stands before a term is above it
pub AllOver-front : (order : Order) (ts : List Term) (u : Term) (us : List Term) → Descends order (ts ++ u ∷ us) → AllOver order u.integral ts
AllOver-front order [] u us h = tt
AllOver-front order (t ∷ ts) u us h = ((each-back (Under order t) ts (u ∷ us) h.0).0, AllOver-front order ts u us h.1)

-- one more term at the end
pub Descends-push : (order : Order) (ts : List Term) (u : Term) → Descends order ts → AllOver order u.integral ts → Descends order (ts ++ u ∷ [])
Descends-push order [] u h over = (tt, tt)
Descends-push order (t ∷ ts) u h over = (each-append (Under order t) ts (u ∷ []) h.0 (over.0, tt), Descends-push order ts u h.1 over.1)

-- two lists, each term of the first above each of the second
pub Descends-append : (order : Order) (ts us : List Term) → Descends order ts → Descends order us → AllByRecursion (λ t. AllUnder order t.integral us) ts → Descends order (ts ++ us)
Descends-append order [] us h g over = g
Descends-append order (t ∷ ts) us h g over = (each-append (Under order t) ts us h.0 over.0, Descends-append order ts us h.1 g over.1)

-- a term between those above and those under it
pub Descends-insert : (order : Order) (ts : List Term) (t : Term) (us : List Term) → Descends order (ts ++ us) → AllOver order t.integral ts → AllUnder order t.integral us → Descends order (ts ++ t ∷ us)
Descends-insert order [] t us h over under = (under, h)
Descends-insert order (s ∷ ts) t us h over under =
    (each-append (Under order s) ts (t ∷ us) (each-front (Under order s) ts us h.0) (over.0, each-back (Under order s) ts us h.0), Descends-insert order ts t us h.1 over.1 under)

pub Descends-remove : (order : Order) (ts : List Term) (t : Term) (us : List Term) → Descends order (ts ++ t ∷ us) → Descends order (ts ++ us)
Descends-remove order [] t us h = h.1
Descends-remove order (s ∷ ts) t us h =
    (each-append (Under order s) ts us (each-front (Under order s) ts (t ∷ us) h.0) (each-back (Under order s) ts (t ∷ us) h.0).1, Descends-remove order ts t us h.1)

-- ---- a search for the place of x

-- what stands up to a term above x is above x
pub above_up_to : (order : Order) (ts : List Term) (x : Integral) (m : ℕ) (d : Term) → AllPairs (IsAbove order) ts → m < length ts → compare order (get_or ts m d).integral x ≡ Greater → (k : ℕ) (e : Term) → k < m + 1 → compare order (get_or ts k e).integral x ≡ Greater
above_up_to order ts x m d pairs within above k e below =
    let at : compare order (get_or ts m e).integral x ≡ Greater = ap (λ t. compare order t.integral x) (get_or_default ts m e d within) ∙ above in
    elim (cases_lt k m) [
      | inl before ↦ Greater-trans order _ _ x (pairs k m e before within) at
      | inr after ↦ let same : k ≡ m = omega arith in ap (λ i. compare order (get_or ts i e).integral x) same ∙ at
    ]

-- what stands from a term under x on is under x
pub under_from : (order : Order) (ts : List Term) (x : Integral) (m : ℕ) (d : Term) → AllPairs (IsAbove order) ts → m < length ts → compare order (get_or ts m d).integral x ≡ Less → (k : ℕ) (e : Term) → m ≤ k → k < length ts → compare order (get_or ts k e).integral x ≡ Less
under_from order ts x m d pairs within under k e from below =
    let at : compare order (get_or ts m e).integral x ≡ Less = ap (λ t. compare order t.integral x) (get_or_default ts m e d within) ∙ under in
    elim (cases_lt m k) [
      | inl before ↦ (compare-total order).trans _ _ x (Less-from_Greater order _ _ (pairs m k e before below)) at
      | inr after ↦ let same : k ≡ m = omega arith in ap (λ i. compare order (get_or ts i e).integral x) same ∙ at
    ]

-- two terms with the same integral and coefficient are the same term
pub same_term : (order : Order) (t u : Term) → compare order t.integral u.integral ≡ Equal → t.coefficient ≡ u.coefficient → t ≡ u
same_term order t u e c = let same = compare-IsAntisymmetric order t.integral u.integral e in λ i. record { integral = same i; coefficient = c i }

-- ---- neighbours

-- the neighbours of a descending list descend
pub above_next : (order : Order) (ts : List Term) (i : ℕ) (s t : Term) → 0 < i → i < length ts → s ≡ get_or ts (i - 1) s → t ≡ get_or ts i t → AllPairs (IsAbove order) ts → IsAbove order s t
above_next order ts i s t some within s_is t_is pairs =
    let pair : IsAbove order (get_or ts (i - 1) s) (get_or ts i s) = pairs (i - 1) i s (omega arith) within in
    let next : get_or ts i s ≡ t = get_or_default ts i s t within ∙ sym t_is in
    subst (λ (u : Term). IsAbove order s u) next (subst (λ (u : Term). IsAbove order u (get_or ts i s)) (sym s_is) pair)

-- a list descends where its neighbours do
pub pairs_more : (order : Order) (ts : List Term) (i : ℕ) (s t : Term) → 0 < i → i < length ts → s ≡ get_or ts (i - 1) s → t ≡ get_or ts i t → IsAbove order s t → AllPairs (IsAbove order) (take i ts) → AllPairs (IsAbove order) (take (i + 1) ts)
pairs_more order ts i s t some within s_is t_is above pairs =
    let count : length (take i ts) ≡ i = length-take-le i ts (omega arith) in
    let last : get_or (take i ts) (i - 1) s ≡ s = get_or-take i ts (i - 1) s (omega arith) ∙ sym s_is in
    let at : compare order (get_or (take i ts) (i - 1) s).integral t.integral ≡ Greater = ap (λ (u : Term). compare order u.integral t.integral) last ∙ above in
    let all : (k : ℕ) (d : Term) → k < length (take i ts) → IsAbove order (get_or (take i ts) k d) t = λ k d below. above_up_to order (take i ts) t.integral (i - 1) s pairs (omega arith) at k d (omega arith) in
    let more : take (i + 1) ts ≡ take i ts ++ t ∷ [] = take_more ts i t within ∙ ap (λ u. take i ts ++ u ∷ []) (sym t_is) in
    subst (AllPairs (IsAbove order)) (sym more) (all_pairs_push (IsAbove order) (take i ts) t pairs all)
