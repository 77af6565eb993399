-- Lists that ascend, each element once.
use Rattle.std.proofs.Common.{◌≡◌, ◌≢◌, ◌≤◌, zero, suc, length, List, [], ◌∷◌, refl, sym, ap, subst, ◌∙◌, arith, ◌⊎◌, inl, inr}
use mathlib.Core.Bool.{true≢false}
use Rattle.std.specs.Prelude.{Contains}
use Rattle.std.specs.List.{dedup}
use Rattle.std.specs.List.Sorted.{IsSorted, IsStrictlySortedBy}
use Rattle.std.specs.Cmp.{Equal-is}
use Rattle.std.proofs.lemmas.Cmp.{eq_by_cmp_equiv}
use Rattle.std.proofs.lemmas.List.Elements.{All-from_recursion}
use Rattle.std.proofs.lemmas.List.Kept.{AllPairs-cons, IsStrictlySortedBy-dedup, Contains-dedup}
use Rattle.std.specs.declared.cmp.Ordering.TheVariants.{Less}
use Rattle.std.specs.Ordering.{is_eq}
use Rattle.std.proofs.lemmas.Cmp.{tied_itself}
use Rattle.integral_index.specs.declared.Order.{Order}
use Rattle.integral_index.specs.Integral.{Integral}
use Rattle.integral_index.specs.Order.{compare}
use Rattle.integral_index.proofs.Orders.{compare-total, compare-IsAntisymmetric}
use Rattle.seed_sets.specs.Seeds.{Ascends, OneListAscends, NoListIsLonger}

nothing : (x : Integral) → ¬ (Contains [] x)
nothing x member = absurd (omega (arith, member.1))

module _ (order : Order) where
  irreflexive : (x : Integral) → compare order x x ≢ Less
  irreflexive x e = true≢false (ap is_eq (sym (tied_itself (compare-total order) x) ∙ e))

  ascending_tail : (x : Integral) (xs : List Integral) → Ascends order (x ∷ xs) → Ascends order xs
  ascending_tail x xs up i j d before within = up (suc i) (suc j) d (omega arith) (omega arith)

  -- the first is less than every other member
  head_less : (x : Integral) (xs : List Integral) (y : Integral) → Ascends order (x ∷ xs) → Contains xs y → compare order x y ≡ Less
  head_less x xs y up member = subst (λ (e : Integral). compare order x e ≡ Less) member.2 (up 0 (suc member.0) y (omega arith) (omega (arith, member.1)))

  -- a member of a list is its first or one of the rest
  head_or_rest : (x : Integral) (xs : List Integral) (y : Integral) → Contains (x ∷ xs) y → (x ≡ y) ⊎ Contains xs y
  head_or_rest x xs y (zero, h, e) = inl e
  head_or_rest x xs y (suc k, h, e) = inr (k, omega (arith, h), e)

  in_rest : (x : Integral) (xs : List Integral) (y : Integral) → Contains xs y → Contains (x ∷ xs) y
  in_rest x xs y member = (suc member.0, omega (arith, member.1), member.2)

  -- a member of the one list's rest isn't the other list's first, where the two lists begin with the same
  rest_of : (a b : Integral) (us vs : List Integral) (z : Integral) → Ascends order (a ∷ us) → a ≡ b → Contains us z → (b ≡ z) ⊎ Contains vs z → Contains vs z
  rest_of a b us vs z rise same m (inl e) = absurd (irreflexive z (subst (λ (u : Integral). compare order u z ≡ Less) (same ∙ e) (head_less a us z rise m)))
  rest_of a b us vs z rise same m (inr n) = n

  one_ascending : (xs ys : List Integral) → Ascends order xs → Ascends order ys → ((z : Integral) → Contains xs z → Contains ys z) → ((z : Integral) → Contains ys z → Contains xs z) → xs ≡ ys
  one_ascending [] [] up down to from = refl
  one_ascending [] (y ∷ ys) up down to from = absurd (nothing y (from y (0, omega arith, refl)))
  one_ascending (x ∷ xs) [] up down to from = absurd (nothing x (to x (0, omega arith, refl)))
  one_ascending (x ∷ xs) (y ∷ ys) up down to from =
      let heads : x ≡ y = same_heads (head_or_rest y ys x (to x (0, omega arith, refl))) (head_or_rest x xs y (from y (0, omega arith, refl))) in
      λ i. heads i ∷ one_ascending xs ys (ascending_tail x xs up) (ascending_tail y ys down)
      (λ z m. rest_of x y xs ys z up heads m (head_or_rest y ys z (to z (in_rest x xs z m))))
      (λ z m. rest_of y x ys xs z down (sym heads) m (head_or_rest x xs z (from z (in_rest y ys z m)))) i
    where
      same_heads : (y ≡ x) ⊎ Contains ys x → (x ≡ y) ⊎ Contains xs y → x ≡ y
      same_heads (inl e) other = sym e
      same_heads (inr m) (inl e) = e
      same_heads (inr m) (inr n) = absurd (irreflexive x ((compare-total order).trans x y x (head_less x xs y up n) (head_less y ys x down m)))

  -- y is less than x, and so than what comes behind x
  not_behind : (x y : Integral) (xs ys : List Integral) (z : Integral) → Ascends order (x ∷ xs) → compare order y x ≡ Less → (x ≡ z) ⊎ Contains xs z → (y ≡ z) ⊎ Contains ys z → Contains ys z
  not_behind x y xs ys z up less place (inr n) = n
  not_behind x y xs ys z up less (inl e) (inl f) = absurd (irreflexive x (subst (λ (u : Integral). compare order u x ≡ Less) (f ∙ sym e) less))
  not_behind x y xs ys z up less (inr m) (inl f) =
      absurd (irreflexive x ((compare-total order).trans x z x (head_less x xs z up m) (subst (λ (u : Integral). compare order u x ≡ Less) f less)))

  no_longer : (xs ys : List Integral) → Ascends order xs → Ascends order ys → ((z : Integral) → Contains xs z → Contains ys z) → length xs ≤ length ys
  no_longer [] ys up down to = omega arith
  no_longer (x ∷ xs) [] up down to = absurd (nothing x (to x (0, omega arith, refl)))
  no_longer (x ∷ xs) (y ∷ ys) up down to =
      counted x y xs ys
      (λ e. no_longer xs ys (ascending_tail x xs up) (ascending_tail y ys down) (λ z m. rest_of x y xs ys z up (sym e) m (head_or_rest y ys z (to z (in_rest x xs z m)))))
      (λ less. no_longer (x ∷ xs) ys up (ascending_tail y ys down) (λ z n. not_behind x y xs ys z up less (head_or_rest x xs z n) (head_or_rest y ys z (to z n))))
      (λ m. head_less y ys x down m) (head_or_rest y ys x (to x (0, omega arith, refl)))
    where
      counted : (x y : Integral) (xs ys : List Integral) → (y ≡ x → length xs ≤ length ys) → (compare order y x ≡ Less → suc (length xs) ≤ length ys) →
          (Contains ys x → compare order y x ≡ Less) → (y ≡ x) ⊎ Contains ys x → suc (length xs) ≤ suc (length ys)
      counted x y xs ys same rest before (inl e) = let n = same e in omega (arith, n)
      counted x y xs ys same rest before (inr m) = let n = rest (before m) in omega (arith, n)

pub one_list : (order : Order) → OneListAscends order
one_list order xs ys up down same = one_ascending order xs ys up down (λ z m. (same z).0 m) (λ z m. (same z).1 m)

pub no_longer_list : (order : Order) → NoListIsLonger order
no_longer_list order xs ys up down to = no_longer order xs ys up down to

-- a list that is strictly sorted ascends
pub Ascends-from_sorted : (order : Order) (xs : List Integral) → IsStrictlySortedBy (compare order) xs → Ascends order xs
unfolding IsStrictlySortedBy
Ascends-from_sorted order [] up = λ i j d before within. absurd (omega (arith, within))
Ascends-from_sorted order (x ∷ xs) up =
    AllPairs-cons (λ (y z : Integral). compare order y z ≡ Less) x xs (All-from_recursion (λ z. compare order x z ≡ Less) xs up.0) (Ascends-from_sorted order xs up.1)

-- what is left of a sorted list where what comes again is left out
pub Ascends-dedup : (order : Order) (xs : List Integral) → IsSorted (compare order) xs → Ascends order (dedup (λ x y. is_eq (compare order x y)) xs)
Ascends-dedup order xs up =
    Ascends-from_sorted order _ (IsStrictlySortedBy-dedup (compare-total order) (λ x y. refl) xs up)

-- and nothing is lost
pub Contains-dedup_order : (order : Order) (xs : List Integral) (x : Integral) → Contains xs x → Contains (dedup (λ x y. is_eq (compare order x y)) xs) x
Contains-dedup_order order =
    Contains-dedup (eq_by_cmp_equiv (compare-total order)) (λ x y e. compare-IsAntisymmetric order x y ((Equal-is (compare order x y)).0 e))
