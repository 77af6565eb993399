-- Lists that ascend, each element once.
use Rattle.std.proofs.Common.{◌≡◌, ◌≢◌, ℕ, zero, suc, nat_lt, ◌+◌, ◌-◌, ◌<◌, ◌≤◌, Bool, true, false, List, [], ◌∷◌, ◌++◌, length, take, get_or, refl, sym, ap, subst, ◌∙◌, arith, ◌⊎◌, inl, inr, length-append, Result, Ok, Err, IfOk}
use mathlib.Core.Bool.{true≢false}
use borrow.Author.Tests.{ltb-true, ltb-false}
use Rattle.std.proofs.lemmas.List.Elements.{Contains-get_or, Contains-append_left, Contains-push, Contains-push_cases}
use Rattle.std.proofs.Math.Seq.{get_or-append_seam}
use Rattle.std.proofs.lemmas.List.{take_more, get_or_default}
use Rattle.std.specs.Prelude.{◌↔◌, AllPairs, Contains}
use Rattle.std.specs.List.Sorted.{IsSorted}
use Rattle.std.specs.declared.cmp.Ordering.{Ordering}
use Rattle.std.specs.declared.cmp.Ordering.TheVariants.{Less, Equal, Greater}
use Rattle.std.specs.Ordering.{is_eq, is_lt, ordering_reverse}
use Rattle.std.specs.Cmp.{Equal-is}
use Rattle.std.proofs.lemmas.Cmp.{tied_itself}
use Rattle.std.proofs.lemmas.List.Quantifiers.{all_pairs_push}
use Rattle.integral_index.specs.declared.Order.{Order}
use Rattle.integral_index.specs.Integral.{Integral}
use Rattle.integral_index.specs.Order.{compare}
use Rattle.integral_index.proofs.Orders.{compare-total, compare-IsAntisymmetric}
use Rattle.table_text.specs.Distinct.{IsLess, IsLast, IsPushedOnce}

-- the test for the last element
pub last-tested : (order : Order) (last x : Integral) → (is_eq (compare order last x) ≡ true → last ≡ x) × (last ≡ x → is_eq (compare order last x) ≡ true)
last-tested order last x = (
  λ e. compare-IsAntisymmetric order last x ((Equal-is (compare order last x)).0 e),
  λ e. ap is_eq (ap (compare order last) (sym e) ∙ tied_itself (compare-total order) last),
)

-- what the test for the last element tells
pub last_tells : (order : Order) (kept : List Integral) (last x : Integral) (r : Bool) (o : Ordering) → 0 < length kept → last ≡ get_or kept (length kept - 1) last → o ≡ compare order last x → r ≡ is_eq o → (r ≡ true → IsLast kept x) × (IsLast kept x → r ≡ true)
last_tells order kept last x r o some is compared tested =
    let place : length kept - 1 < length kept = omega arith in
    let same : get_or kept (length kept - 1) x ≡ last = get_or_default kept (length kept - 1) x last place ∙ sym is in
    let answer : r ≡ is_eq (compare order last x) = tested ∙ ap is_eq compared in (
      λ yes. (some, same ∙ (last-tested order last x).0 (sym answer ∙ yes)),
      λ found. answer ∙ (last-tested order last x).1 (sym same ∙ found.1),
    )

le_or_lt_zero : (i : ℕ) → (i ≡ 0) ⊎ (0 < i)
le_or_lt_zero zero = inl refl
le_or_lt_zero (suc i) = inr (omega arith)

lt_or_last : (k n : ℕ) → k < n → (k < n - 1) ⊎ (k ≡ n - 1)
lt_or_last k n h = by (nat_lt k (n - 1)) refl
  where
    by : (b : Bool) → nat_lt k (n - 1) ≡ b → (k < n - 1) ⊎ (k ≡ n - 1)
    by true e = inl (ltb-true k (n - 1) e)
    by false e = inr (let past = ltb-false k (n - 1) e in omega (arith, past, h))

-- what the loop over a sorted list keeps after i of its elements
pub record Keeps (order : Order) (sorted kept : List Integral) (i : ℕ) : Type 0 where
  pub ascend : AllPairs (IsLess order) kept
  pub members : (x : Integral) → Contains kept x ↔ Contains (take i sorted) x
  pub last : (d : Integral) → 0 < i → IsLast kept (get_or sorted (i - 1) d)

nothing : (x : Integral) → ¬ (Contains [] x)
nothing x member = absurd (omega (arith, member.1))

module _ (order : Order) (sorted kept : List Integral) (i : ℕ) (x : Integral) (up : IsSorted (compare order) sorted) (within : i < length sorted) (is : (d : Integral) → get_or sorted i d ≡ x) (was : Keeps order sorted kept i) where
  -- an element of the sorted list comes after the one before it, or is the same
  not_less : (l : Integral) → 0 < i → get_or sorted (i - 1) x ≡ l → is_lt (compare order x l) ≡ false
  not_less l some before =
      let next : i - 1 + 1 ≡ i = omega arith in
      let inside : i - 1 + 1 < length sorted = omega arith in
      let start : 0 ≤ i - 1 = omega arith in
      ap is_lt (λ j. compare order (sym (ap (λ k. get_or sorted k x) next ∙ is x) j) (sym before j)) ∙ up (i - 1) x start inside

  above : (l : Integral) → is_lt (compare order x l) ≡ false → l ≢ x → compare order l x ≡ Less
  above l low other = by (compare order l x) refl
    where
      by : (o : Ordering) → compare order l x ≡ o → compare order l x ≡ Less
      by Less e = e
      by Equal e = absurd (other (compare-IsAntisymmetric order l x e))
      by Greater e = absurd (true≢false (sym (ap is_lt ((compare-total order).antisymm x l ∙ ap ordering_reverse e)) ∙ low))

  -- each that was kept is less than x, which isn't the last of them
  all_less : ¬ (IsLast kept x) → (k : ℕ) (d : Integral) → k < length kept → compare order (get_or kept k d) x ≡ Less
  all_less other k d inside =
      elim (le_or_lt_zero i) [
        | inl none ↦ absurd (nothing _ (subst (λ n. Contains (take n sorted) (get_or kept k d)) none ((was.members (get_or kept k d)).0 (Contains-get_or kept k d inside))))
        | inr some ↦
            let l = get_or sorted (i - 1) x in
            let at_end = was.last x some in
            let lies : compare order l x ≡ Less = above l (not_less l some refl) (λ same. other (at_end.0, get_or_default kept (length kept - 1) x l (omega (arith, at_end.0)) ∙ at_end.1 ∙ same)) in
            elim (lt_or_last k (length kept) inside) [
              | inl before ↦ (compare-total order).trans (get_or kept k d) l x
                  (subst (λ (e : Integral). compare order (get_or kept k d) e ≡ Less) (get_or_default kept (length kept - 1) d l (omega (arith, at_end.0)) ∙ at_end.1) (was.ascend k (length kept - 1) d before (omega (arith, at_end.0)))) lies
              | inr same ↦ subst (λ (e : Integral). compare order e x ≡ Less) (sym (ap (λ n. get_or kept n d) same ∙ get_or_default kept (length kept - 1) d l (omega (arith, at_end.0)) ∙ at_end.1)) lies
            ]
      ]

  more : take (i + 1) sorted ≡ take i sorted ++ x ∷ []
  more = take_more sorted i x within ∙ ap (λ y. take i sorted ++ y ∷ []) (is x)

  -- the members with one element more
  grown : (y : Integral) → Contains (take i sorted ++ x ∷ []) y → Contains (kept ++ x ∷ []) y
  grown y member =
      elim (Contains-push_cases (take i sorted) x y member) [
        | inl before ↦ Contains-append_left kept (x ∷ []) y ((was.members y).1 before)
        | inr same ↦ subst (Contains (kept ++ x ∷ [])) same (Contains-push kept x)
      ]

  back : (y : Integral) → Contains (kept ++ x ∷ []) y → Contains (take i sorted ++ x ∷ []) y
  back y member =
      elim (Contains-push_cases kept x y member) [
        | inl before ↦ Contains-append_left (take i sorted) (x ∷ []) y ((was.members y).0 before)
        | inr same ↦ subst (Contains (take i sorted ++ x ∷ [])) same (Contains-push (take i sorted) x)
      ]

  -- the element before place i + 1 is x
  place : (d : Integral) → get_or sorted (i + 1 - 1) d ≡ x
  place d = let same : i + 1 - 1 ≡ i = omega arith in ap (λ k. get_or sorted k d) same ∙ is d

  kept_already : IsLast kept x → Keeps order sorted kept (i + 1)
  kept_already at_end = record {
    ascend = was.ascend;
    members = λ y. (
      λ m. subst (λ (l : List Integral). Contains l y) (sym more) (Contains-append_left (take i sorted) (x ∷ []) y ((was.members y).0 m)),
      λ m. elim (Contains-push_cases (take i sorted) x y (subst (λ (l : List Integral). Contains l y) more m)) [
        | inl before ↦ (was.members y).1 before
        | inr same ↦ subst (Contains kept) same (length kept - 1, omega (arith, at_end.0), at_end.1)
      ],
    );
    last = λ d some. subst (λ (e : Integral). IsLast kept e) (sym (place d)) at_end;
  }

  appended : ¬ (IsLast kept x) → Keeps order sorted (kept ++ x ∷ []) (i + 1)
  appended other = record {
    ascend = all_pairs_push (IsLess order) kept x was.ascend (all_less other);
    members = λ y. (
      λ m. subst (λ (l : List Integral). Contains l y) (sym more) (back y m),
      λ m. grown y (subst (λ (l : List Integral). Contains l y) more m),
    );
    last = λ d some. subst (λ (e : Integral). IsLast (kept ++ x ∷ []) e) (sym (place d)) (
      omega (arith, length-append kept (x ∷ [])),
      (let end : length (kept ++ x ∷ []) - 1 ≡ length kept = omega (arith, length-append kept (x ∷ [])) in
          ap (λ n. get_or (kept ++ x ∷ []) n x) end ∙ get_or-append_seam kept x [] x),
    );
  }

  pub Keeps-more : (after : List Integral) → IsPushedOnce kept x after → Keeps order sorted after (i + 1)
  Keeps-more after pushed =
      elim pushed [
        | inl same ↦ subst (λ (ks : List Integral). Keeps order sorted ks (i + 1)) (sym same.1) (kept_already same.0)
        | inr new ↦ subst (λ (ks : List Integral). Keeps order sorted ks (i + 1)) (sym new.1) (appended new.0)
      ]

-- two lists that ascend and have the same members are the same
module _ (order : Order) where
  irreflexive : (x : Integral) → compare order x x ≢ Less
  irreflexive x e = true≢false (ap is_eq (sym (tied_itself (compare-total order) x) ∙ e))

  ascending_tail : (x : Integral) (xs : List Integral) → AllPairs (IsLess order) (x ∷ xs) → AllPairs (IsLess order) xs
  ascending_tail x xs up i j d before within = up (suc i) (suc j) d (omega arith) (omega arith)

  -- the first is less than every other member
  head_less : (x : Integral) (xs : List Integral) (y : Integral) → AllPairs (IsLess order) (x ∷ xs) → Contains xs y → compare order x y ≡ Less
  head_less x xs y up member = subst (λ (e : Integral). compare order x e ≡ Less) member.2 (up 0 (suc member.0) y (omega arith) (omega (arith, member.1)))

  -- a member of a list is its first or one of the rest
  head_or_rest : (x : Integral) (xs : List Integral) (y : Integral) → Contains (x ∷ xs) y → (x ≡ y) ⊎ Contains xs y
  head_or_rest x xs y (zero, h, e) = inl e
  head_or_rest x xs y (suc k, h, e) = inr (k, omega (arith, h), e)

  in_rest : (x : Integral) (xs : List Integral) (y : Integral) → Contains xs y → Contains (x ∷ xs) y
  in_rest x xs y member = (suc member.0, omega (arith, member.1), member.2)

  pub one_ascending : (xs ys : List Integral) → AllPairs (IsLess order) xs → AllPairs (IsLess order) ys → ((z : Integral) → Contains xs z → Contains ys z) → ((z : Integral) → Contains ys z → Contains xs z) → xs ≡ ys
  one_ascending [] [] up down to from = refl
  one_ascending [] (y ∷ ys) up down to from = absurd (nothing y (from y (0, omega arith, refl)))
  one_ascending (x ∷ xs) [] up down to from = absurd (nothing x (to x (0, omega arith, refl)))
  one_ascending (x ∷ xs) (y ∷ ys) up down to from =
      let heads : x ≡ y = same_heads (head_or_rest y ys x (to x (0, omega arith, refl))) (head_or_rest x xs y (from y (0, omega arith, refl))) in
      λ i. heads i ∷ one_ascending xs ys (ascending_tail x xs up) (ascending_tail y ys down)
      (λ z m. rest_of x y xs ys z up heads m (head_or_rest y ys z (to z (in_rest x xs z m))))
      (λ z m. rest_of y x ys xs z down (sym heads) m (head_or_rest x xs z (from z (in_rest y ys z m)))) i
    where
      same_heads : (y ≡ x) ⊎ Contains ys x → (x ≡ y) ⊎ Contains xs y → x ≡ y
      same_heads (inl e) other = sym e
      same_heads (inr m) (inl e) = e
      same_heads (inr m) (inr n) = absurd (irreflexive x ((compare-total order).trans x y x (head_less x xs y up n) (head_less y ys x down m)))

      rest_of : (a b : Integral) (us vs : List Integral) (z : Integral) → AllPairs (IsLess order) (a ∷ us) → a ≡ b → Contains us z → (b ≡ z) ⊎ Contains vs z → Contains vs z
      rest_of a b us vs z rise same m (inl e) = absurd (irreflexive z (subst (λ (u : Integral). compare order u z ≡ Less) (same ∙ e) (head_less a us z rise m)))
      rest_of a b us vs z rise same m (inr n) = n

-- nothing was kept of nothing
pub Keeps-none : (order : Order) (sorted : List Integral) → Keeps order sorted [] 0
Keeps-none order sorted = record {
  ascend = λ i j d before within. absurd (omega (arith, within));
  members = λ x. (λ m. absurd (nothing x m), λ m. absurd (nothing x m));
  last = λ d some. absurd (omega (arith, some));
}

-- what holds of the value of a call that succeeded gives what follows from it
pub if_ok_weaker : {T E : Type 0} {P Q : T → Type 0} (r : Result T E) → ((x : T) → P x → Q x) → IfOk r P → IfOk r Q
if_ok_weaker (Ok x) f p = f x p
if_ok_weaker (Err e) f p = tt
