-- What is the same in all eliminations of a list of rows.
use Rattle.std.proofs.Common.{◌≡◌, ◌≢◌, ℕ, suc, ◌+◌, ◌-◌, ◌*◌, ◌%◌, ◌<◌, ◌≤◌, List, [], ◌∷◌, ◌++◌, length, get_or, All, Contains, refl, sym, ap, subst, ◌∙◌, inl, inr, arith, zero-add, add_assoc, length-append}
use Rattle.std.specs.Ordering.{ordering_reverse}
use Rattle.std.specs.declared.cmp.Ordering.TheVariants.{Less, Equal, Greater}
use Rattle.std.proofs.Math.Nat.{mod-add-mod, zero-mod, mul-zero, mul-one}
use Rattle.std.proofs.lemmas.Nat.{mul-mod_first}
use Rattle.std.proofs.lemmas.Bool.{cases_lt}
use Rattle.std.proofs.lemmas.List.{length-map, get_or_append_left, get_or-append_right}
use Rattle.std.proofs.lemmas.List.Elements.{All-contains, Contains-get_or, Contains-append_left, Contains-append_right}
use Rattle.integral_index.specs.declared.Order.{Order}
use Rattle.integral_index.specs.declared.Unit.{Unit}
use Rattle.integral_index.specs.Integral.{Integral}
use Rattle.integral_index.specs.Order.{compare, unit_of}
use Rattle.integral_index.proofs.Orders.{compare-total, compare-IsAntisymmetric}
use Rattle.sparse_row.specs.Row.{Row, coefficient, Shows, IsGreatest, IsPivot}
use Rattle.sparse_row.specs.Span.{combination, InSpan}
use Rattle.sparse_row.proofs.Spans.{at, combination-some, combination-only, combination-none}
use Rattle.sparse_row.proofs.RowSpans.{no_row, functions, at-functions, InSpan-trans}
use Rattle.sparse_row.proofs.RowValues.{greatest_same}
use Rattle.sector_forward.specs.Elimination.{IsRuleOf, IsElimination, IsShownBySome}
use Rattle.sector_forward.proofs.Keys.{decided}
use Rattle.sector_forward.proofs.Parted.{shown_by_span}

-- a sum over two lists, one behind the other
combination-append : {K : Type 0} (c : ℕ → ℕ) (fs gs : List (K → ℕ)) (x : K) → combination c (fs ++ gs) x ≡ combination c fs x + combination (λ k. c (length fs + k)) gs x
combination-append c [] gs x = ap (λ m. combination m gs x) (λ i k. c (sym (zero-add k) i)) ∙ sym (zero-add (combination (λ k. c (0 + k)) gs x))
combination-append c (f ∷ fs) gs x =
    ap (λ u. c 0 * f x + u) (combination-append (λ k. c (suc k)) fs gs x)
    ∙ sym (add_assoc (c 0 * f x) (combination (λ k. c (suc k)) fs x) (combination (λ k. c (suc (length fs + k))) gs x))
    ∙ ap (λ m. c 0 * f x + combination (λ k. c (suc k)) fs x + combination m gs x) (λ i k. c (shifted (length fs) k i))
  where
    shifted : (n k : ℕ) → suc (n + k) ≡ suc n + k
    shifted n k = omega arith

map-append : (rows rest : List Row) → functions (rows ++ rest) ≡ functions rows ++ functions rest
map-append [] rest = refl
map-append (row ∷ rows) rest = λ i. coefficient row ∷ map-append rows rest i

-- ---- a row that is spanned by an elimination, seen at the pivots

module _ (p : ℕ) (order : Order) (unit : Unit) (taken rows rest : List Row) (e : IsElimination p order unit taken rows rest) (row : Row) (s : InSpan p (rows ++ rest) row) where
  both : List Row
  both = rows ++ rest

  outside_zero : (k : ℕ) (d : Row) (x : Integral) → length rows ≤ k → k < length both → unit_of x ≡ unit → coefficient (get_or both k d) x ≡ 0
  unfolding both
  outside_zero k d x after within of_unit =
      let len = length-append rows rest in
      let here = get_or-append_right rows rest (length rows) k d refl after in
      elim (decided (coefficient (get_or both k d) x)) [
        | inl none ↦ none
        | inr shows ↦
            let there = e.are_outside (k - length rows) d (omega arith) in
            absurd (there.none x (λ z. shows (ap (λ r. coefficient r x) here ∙ z)) of_unit)
      ]

  -- the multiplier of a rule is the row's own coefficient at its pivot
  pub multiplier_is : (k : ℕ) (d : Row) (y : Integral) → k < length rows → IsPivot order (get_or rows k d) y → unit_of y ≡ unit → coefficient row y ≡ s.multiplier k % p
  unfolding both
  multiplier_is k d y in_k pivot of_unit =
      let len = length-append rows rest in
      let lenf = length-map both coefficient in
      let fs = functions both in
      let within : k < length fs = omega arith in
      let others : (i : ℕ) → i < length fs → i ≢ k → (s.multiplier i * at fs i y) % p ≡ 0 =
      λ i h differ.
      let in_both : i < length both = omega arith in
      let zero_there : at fs i y ≡ 0 =
      ap (λ f. f y) (at-functions both i d in_both)
      ∙ elim (cases_lt i (length rows)) as (λ _. coefficient (get_or both i d) y ≡ 0) [
        | inl before ↦ ap (λ r. coefficient r y) (get_or_append_left rows rest d i before) ∙ e.apart k i d y in_k before (λ z. differ (sym z)) pivot
        | inr after ↦ outside_zero i d y after in_both of_unit
      ] in
      ap (λ u. (s.multiplier i * u) % p) zero_there ∙ ap (λ u. u % p) (mul-zero (s.multiplier i)) ∙ zero-mod p in
      let one : at fs k y ≡ 1 = ap (λ f. f y) (at-functions both k d (omega arith)) ∙ ap (λ r. coefficient r y) (get_or_append_left rows rest d k in_k) ∙ pivot.one in
      s.is y ∙ combination-only p s.multiplier fs y k within others ∙ ap (λ u. (s.multiplier k * u) % p) one ∙ ap (λ u. u % p) (mul-one (s.multiplier k))

  -- a greatest integral of the unit is the pivot of a rule
  pub pivot_found : (x : Integral) → IsGreatest order row x → unit_of x ≡ unit → (other : Row) × Contains rows other × IsPivot order other x
  unfolding both
  pivot_found x top of_unit =
      let len = length-append rows rest in
      let lenf = length-map both coefficient in
      let fs = functions both in
      let found = combination-some p s.multiplier fs x (λ z. top.shown (s.is x ∙ z)) in
      let k = found.0 in
      let in_both : k < length both = omega (arith, found.1) in
      let nonzero : (s.multiplier k * at fs k x) % p ≢ 0 = found.2 in
      let shows : Shows (get_or both k no_row) x =
      λ z. nonzero (ap (λ u. (s.multiplier k * u) % p) (ap (λ f. f x) (at-functions both k no_row in_both) ∙ z) ∙ ap (λ u. u % p) (mul-zero (s.multiplier k)) ∙ zero-mod p) in
      elim (cases_lt k (length rows)) [
        | inr after ↦ absurd (shows (outside_zero k no_row x after in_both of_unit))
        | inl before ↦
            let rule = get_or rows k no_row in
            let same = get_or_append_left rows rest no_row k before in
            let is = e.are_rules k no_row before in
            let y = (is.pivot).0 in
            let pivot : IsPivot order rule y = (is.pivot).1 in
            let at_y = multiplier_is k no_row y before pivot (is.pivot).2 in
            let at_y_some : Shows row y =
            λ z. nonzero (sym (mul-mod_first (s.multiplier k) (at fs k x) p) ∙ ap (λ u. (u * at fs k x) % p) (sym at_y ∙ z) ∙ ap (λ u. u % p) (zero_times (at fs k x)) ∙ zero-mod p) in
            let up : compare order x y ≢ Greater = pivot.is_greatest.greatest x (λ z. shows (ap (λ r. coefficient r x) same ∙ z)) in
            let down : compare order y x ≢ Greater = top.greatest y at_y_some in
            let one : x ≡ y = compare-IsAntisymmetric order x y (not_apart x y up down) in
            (rule, Contains-get_or rows k no_row before, subst (IsPivot order rule) (sym one) pivot)
      ]
    where
      zero_times : (n : ℕ) → 0 * n ≡ 0
      zero_times n = omega arith

      not_apart : (x y : Integral) → compare order x y ≢ Greater → compare order y x ≢ Greater → compare order x y ≡ Equal
      not_apart x y up down =
          let turned = (compare-total order).antisymm x y in
          elim (compare order x y) as (λ o. compare order y x ≡ ordering_reverse o → o ≢ Greater → o ≡ Equal) [
            | Less ↦ λ t _. absurd (down t)
            | Equal ↦ λ _ _. refl
            | Greater ↦ λ _ h. absurd (h refl)
          ] ((compare-total order).antisymm y x) up

  -- a row that shows nothing of the unit is spanned by the rest
  pub spanned_by_rest : ((x : Integral) → Shows row x → unit_of x ≢ unit) → InSpan p rest row
  unfolding both
  spanned_by_rest none =
      let later : ℕ → ℕ = λ k. s.multiplier (length (functions rows) + k) in
      let lenf = length-map rows coefficient in
      let vanish : (x : Integral) → combination s.multiplier (functions rows) x % p ≡ 0 =
      λ x. combination-none p s.multiplier (functions rows) x
      (λ k h.
      let in_k : k < length rows = omega arith in
      let is = e.are_rules k no_row in_k in
      let at_y = multiplier_is k no_row (is.pivot).0 in_k (is.pivot).1 (is.pivot).2 in
      let zero_there : s.multiplier k % p ≡ 0 =
      sym at_y ∙ elim (decided (coefficient row (is.pivot).0)) [ inl z ↦ z | inr shows ↦ absurd (none (is.pivot).0 shows (is.pivot).2) ] in
      sym (mul-mod_first (s.multiplier k) (at (functions rows) k x) p) ∙ ap (λ u. (u * at (functions rows) k x) % p) zero_there ∙ zero_mod_times (at (functions rows) k x)) in
      record {
        multiplier = later;
        is = λ x.
            s.is x ∙ ap (λ fs. combination s.multiplier fs x % p) (map-append rows rest) ∙ ap (λ u. u % p) (combination-append s.multiplier (functions rows) (functions rest) x)
            ∙ drop_first (combination s.multiplier (functions rows) x) (combination later (functions rest) x) (vanish x);
      }
    where
      zero_mod_times : (n : ℕ) → 0 * n % p ≡ 0
      zero_mod_times n = ap (λ u. u % p) (let z : 0 * n ≡ 0 = omega arith in z) ∙ zero-mod p

      drop_first : (a b : ℕ) → a % p ≡ 0 → (a + b) % p ≡ b % p
      drop_first a b z = sym (mod-add-mod a p b) ∙ ap (λ u. (u + b) % p) z ∙ ap (λ u. u % p) (zero-add b)

-- ---- the laws

module _ (p : ℕ) (order : Order) (unit : Unit) (taken rows rest others others_rest : List Row) (e : IsElimination p order unit taken rows rest) (f : IsElimination p order unit taken others others_rest) where
  across : (row : Row) → Contains (rows ++ rest) row → InSpan p (others ++ others_rest) row
  across row member = InSpan-trans p taken (others ++ others_rest) row f.span.forth (All-contains (InSpan p taken) (rows ++ rest) row e.span.back member)

  pub one_pivots : (row : Row) (x : Integral) → Contains rows row → IsPivot order row x → (other : Row) × Contains others other × IsPivot order other x
  one_pivots row x member pivot =
      let is = All-contains (IsRuleOf p order unit) rows row e.are_rules member in
      let own : (is.pivot).0 ≡ x = greatest_same order row (is.pivot).0 x ((is.pivot).1).is_greatest pivot.is_greatest in
      pivot_found p order unit taken others others_rest f row (across row (Contains-append_left rows rest row member)) x pivot.is_greatest (ap unit_of (sym own) ∙ (is.pivot).2)

  pub rest_spanned : All (InSpan p others_rest) rest
  rest_spanned k d h =
      let row = get_or rest k d in
      let out = e.are_outside k d h in
      spanned_by_rest p order unit taken others others_rest f row (across row (Contains-append_right rows rest row (Contains-get_or rest k d h))) out.none

pub nothing_new : (p : ℕ) (order : Order) (unit : Unit) (taken rows rest : List Row) (row : Row) (x : Integral) → IsElimination p order unit taken rows rest → Contains (rows ++ rest) row → Shows row x → IsShownBySome taken x
nothing_new p order unit taken rows rest row x e member shows =
    shown_by_span p taken row x (All-contains (InSpan p taken) (rows ++ rest) row e.span.back member) shows
