-- Why there is only one reduced list, over functions from keys into the numbers: two lists that span each other, each
-- with pivots that ascend and stand in no other function of the list, have the same functions.
use Rattle.std.proofs.Common.{◌≡◌, ◌≢◌, ℕ, ◌*◌, ◌%◌, ◌<◌, List, length, refl, sym, ap, subst, ◌∙◌, inl, inr, arith}
use Rattle.std.proofs.Math.Nat.{zero-mod, mul-zero, zero-mul, mul-one, mod-eq_of_lt}
use Rattle.std.proofs.lemmas.Nat.{mul-mod_first}
use Rattle.std.proofs.lemmas.Cmp.{tied_itself}
use Rattle.std.proofs.lemmas.Bool.{cases_order, cases_eq}
use Rattle.std.specs.Cmp.{IsTotalOrder}
use Rattle.std.specs.FinMap.{IsAntisymmetric}
use Rattle.std.specs.Ordering.{ordering_reverse}
use Rattle.std.specs.declared.cmp.Ordering.{Ordering}
use Rattle.std.specs.declared.cmp.Ordering.TheVariants.{Less, Equal, Greater}
use Rattle.sparse_row.specs.Span.{combination}
use Rattle.sector_forward.proofs.Keys.{decided}
use Rattle.sparse_row.proofs.Spans.{at, IsSpanned, AllSpanned, combination-agree, combination-only, combination-some, IsSpanned-at}

-- the key is the greatest at which the function isn't 0, and there it is 1
pub record IsTop {K : Type 0} (R : K → K → Ordering) (f : K → ℕ) (x : K) : Type 0 where
  pub one : f x ≡ 1
  pub greatest : (y : K) → f y ≢ 0 → R y x ≢ Greater

-- functions below p with ascending pivots, none of which stands in another function
pub record IsStair {K : Type 0} (R : K → K → Ordering) (p : ℕ) (fs : List (K → ℕ)) : Type 0 where
  pub below : (k : ℕ) → k < length fs → (x : K) → at fs k x < p
  pub pivots : (k : ℕ) → k < length fs → (x : K) × IsTop R (at fs k) x
  pub ascend : (i j : ℕ) → i < j → j < length fs → (x y : K) → IsTop R (at fs i) x → IsTop R (at fs j) y → R x y ≡ Less
  pub apart : (i j : ℕ) → i < length fs → j < length fs → (x : K) → IsTop R (at fs i) x → at fs j x ≢ 0 → IsTop R (at fs j) x

-- two keys of which neither is greater are tied
neither : (r s : Ordering) → r ≡ ordering_reverse s → r ≢ Greater → s ≢ Greater → r ≡ Equal
neither Less Less e r s = cc
neither Less Equal e r s = cc
neither Less Greater e r s = absurd (s refl)
neither Equal s e r t = refl
neither Greater s e r t = absurd (r refl)

module _ {K : Type 0} (R : K → K → Ordering) (o : IsTotalOrder R) (same : IsAntisymmetric R) (p : ℕ) where
  -- of two keys, each not greater than the other, there is only one
  pub one_key : (x y : K) → R x y ≢ Greater → R y x ≢ Greater → x ≡ y
  one_key x y a b = same x y (neither (R x y) (R y x) (o.antisymm x y) a b)

  shown : (f : K → ℕ) (x : K) → IsTop R f x → f x ≢ 0
  shown f x top e = absurd (omega (arith, top.one))

  pub IsTop-one : (f : K → ℕ) (x y : K) → IsTop R f x → IsTop R f y → x ≡ y
  IsTop-one f x y s t = one_key x y (t.greatest x (shown f x s)) (s.greatest y (shown f y t))

  module _ (fs : List (K → ℕ)) (stair : IsStair R p fs) where
    -- no pivot stands in a function at another place
    pub elsewhere : (i j : ℕ) (x : K) → i < length fs → j < length fs → i ≢ j → IsTop R (at fs i) x → at fs j x ≡ 0
    elsewhere i j x in_i in_j ne top =
        elim (decided (at fs j x)) [
          | inl none ↦ none
          | inr some ↦
              let there = stair.apart i j in_i in_j x top some in
              let less : (a b : ℕ) → a < b → b < length fs → IsTop R (at fs a) x → IsTop R (at fs b) x → R x x ≡ Less = λ a b l h s t. stair.ascend a b l h x x s t in
              let never : R x x ≢ Less = λ e. let tied = tied_itself o x in cc in
              elim (cases_order i j) [
                | inl e ↦ absurd (ne e)
                | inr (inl l) ↦ absurd (never (less i j l in_j top there))
                | inr (inr l) ↦ absurd (never (less j i l in_i there top))
              ]
        ]

    -- at a pivot a combination is the multiplier of its function
    pub at_pivot : (c : ℕ → ℕ) (j : ℕ) (x : K) → j < length fs → IsTop R (at fs j) x → combination c fs x % p ≡ c j % p
    at_pivot c j x in_j top =
        combination-only p c fs x j in_j
        (λ k in_k ne. ap (λ u. (c k * u) % p) (elsewhere j k x in_j in_k (λ e. ne (sym e)) top) ∙ ap (λ u. u % p) (mul-zero (c k)) ∙ zero-mod p)
        ∙ ap (λ u. (c j * u) % p) top.one ∙ ap (λ u. u % p) (mul-one (c j))

    -- what the list spans is known by its values at the pivots
    pub known_by_pivots : (g h : K → ℕ) → IsSpanned p fs g → IsSpanned p fs h → ((j : ℕ) (x : K) → j < length fs → IsTop R (at fs j) x → g x % p ≡ h x % p) → (x : K) → g x % p ≡ h x % p
    known_by_pivots g h s t agree x =
        s.is x ∙ combination-agree p s.multiplier t.multiplier fs x
        (λ k in_k.
        let y = (stair.pivots k in_k).0 in
        let top = (stair.pivots k in_k).1 in
        let one : s.multiplier k % p ≡ t.multiplier k % p = sym (at_pivot s.multiplier k y in_k top) ∙ sym (s.is y) ∙ agree k y in_k top ∙ t.is y ∙ at_pivot t.multiplier k y in_k top in
        sym (mul-mod_first (s.multiplier k) (at fs k x) p) ∙ ap (λ u. (u * at fs k x) % p) one ∙ mul-mod_first (t.multiplier k) (at fs k x) p)
        ∙ sym (t.is x)

    -- the greatest key of what the list spans is a pivot
    pub greatest_is_pivot : (g : K → ℕ) (x : K) → IsSpanned p fs g → g x % p ≢ 0 → ((y : K) → g y % p ≢ 0 → R y x ≢ Greater) → (j : ℕ) × (j < length fs) × IsTop R (at fs j) x
    greatest_is_pivot g x s some greatest =
        let part = combination-some p s.multiplier fs x (λ e. some (s.is x ∙ e)) in
        let j = part.0 in
        let in_j = part.1 in
        let y = (stair.pivots j in_j).0 in
        let top = (stair.pivots j in_j).1 in
        let f_shows : at fs j x ≢ 0 = λ e. part.2 (ap (λ u. (s.multiplier j * u) % p) e ∙ ap (λ u. u % p) (mul-zero (s.multiplier j)) ∙ zero-mod p) in
        let counts : s.multiplier j % p ≢ 0 = λ e. part.2 (sym (mul-mod_first (s.multiplier j) (at fs j x) p) ∙ ap (λ u. (u * at fs j x) % p) e ∙ ap (λ u. u % p) (zero-mul (at fs j x)) ∙ zero-mod p) in
        let g_shows : g y % p ≢ 0 = λ e. counts (sym (at_pivot s.multiplier j y in_j top) ∙ sym (s.is y) ∙ e) in
        let one : y ≡ x = one_key y x (greatest y g_shows) (top.greatest x f_shows) in
        (j, in_j, subst (λ z. IsTop R (at fs j) z) one top)

  -- the pivot of one list is a pivot of another that spans it
  pivot_of_other : (fs gs : List (K → ℕ)) → IsStair R p fs → IsStair R p gs → AllSpanned p fs gs → (j : ℕ) (x : K) → j < length gs → IsTop R (at gs j) x → (k : ℕ) × (k < length fs) × IsTop R (at fs k) x
  pivot_of_other fs gs f_stair g_stair spanned j x in_j top =
      let small : (y : K) → at gs j y % p ≡ at gs j y = λ y. mod-eq_of_lt (g_stair.below j in_j y) in
      greatest_is_pivot fs f_stair (at gs j) x (spanned j in_j) (λ e. shown (at gs j) x top (sym (small x) ∙ e)) (λ y some. top.greatest y (λ e. some (small y ∙ e)))

  -- each function of the one list is one of the other
  pub matched : (fs gs : List (K → ℕ)) → IsStair R p fs → IsStair R p gs → AllSpanned p fs gs → AllSpanned p gs fs → (j : ℕ) → j < length gs → (k : ℕ) × (k < length fs) × ((x : K) → at fs k x ≡ at gs j x)
  matched fs gs f_stair g_stair gs_spanned fs_spanned j in_j =
      let x = (g_stair.pivots j in_j).0 in
      let g_top = (g_stair.pivots j in_j).1 in
      let here = pivot_of_other fs gs f_stair g_stair gs_spanned j x in_j g_top in
      let k = here.0 in
      let in_k = here.1 in
      let f_top = here.2 in
      let agree : (i : ℕ) (y : K) → i < length fs → IsTop R (at fs i) y → at fs k y % p ≡ at gs j y % p =
      λ i y in_i top.
      let there = pivot_of_other gs fs g_stair f_stair fs_spanned i y in_i top in
      elim (cases_eq i k) [
        | inl e ↦
            let both : IsTop R (at fs k) y = subst (λ n. IsTop R (at fs n) y) e top in
            let one : x ≡ y = IsTop-one (at fs k) x y f_top both in
            ap (λ u. u % p) (both.one ∙ sym (subst (λ z. at gs j z ≡ 1) one g_top.one))
        | inr ne ↦
            let f_none : at fs k y ≡ 0 = elsewhere fs f_stair i k y in_i in_k ne top in
            let other : there.0 ≢ j = λ e.
            let one : x ≡ y = IsTop-one (at gs j) x y g_top (subst (λ n. IsTop R (at gs n) y) e there.2) in
            shown (at fs k) x f_top (subst (λ z. at fs k z ≡ 0) (sym one) f_none) in
            ap (λ u. u % p) (f_none ∙ sym (elsewhere gs g_stair there.0 j y there.1 in_j other there.2))
      ] in
      let known = known_by_pivots fs f_stair (at fs k) (at gs j) (IsSpanned-at p fs k in_k) (gs_spanned j in_j) agree in
      (k, in_k, λ z. sym (mod-eq_of_lt (f_stair.below k in_k z)) ∙ known z ∙ mod-eq_of_lt (g_stair.below j in_j z))
