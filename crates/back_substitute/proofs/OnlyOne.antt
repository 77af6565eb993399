-- Two back substitutions of the same rows are equal.
use Rattle.std.proofs.Common.{◌≡◌, ◌≢◌, ℕ, ◌-◌, ◌*◌, ◌%◌, ◌<◌, List, ◌++◌, length, get_or, refl, sym, ap, subst, ◌∙◌, inl, inr, arith, length-append}
use Rattle.std.proofs.Math.Nat.{one-mul, mod-eq_of_lt}
use Rattle.std.proofs.lemmas.Nat.{mul-mod_first}
use Rattle.std.proofs.lemmas.Bool.{cases_lt}
use Rattle.std.proofs.lemmas.List.{length-map, get_or_append_left, get_or-append_right, same_lists}
use Rattle.std.proofs.lemmas.List.Elements.{All-contains, Contains-get_or, Contains-append_left}
use Rattle.integral_index.specs.declared.Order.{Order}
use Rattle.integral_index.specs.declared.Unit.{Unit}
use Rattle.integral_index.specs.Integral.{Integral}
use Rattle.integral_index.specs.Order.{unit_of}
use Rattle.sparse_row.specs.Row.{Row, coefficient, IsPivot}
use Rattle.sparse_row.specs.Span.{InSpan}
use Rattle.sparse_row.proofs.Spans.{at, combination-only}
use Rattle.sparse_row.proofs.RowSpans.{functions, at-functions, InSpan-trans}
use Rattle.sparse_row.proofs.RowValues.{greatest_same, same_row}
use Rattle.sector_forward.specs.Elimination.{AreApart}
use Rattle.sector_forward.proofs.Keys.{decided}
use Rattle.back_substitute.specs.Substitution.{IsSubstitution}
use Rattle.back_substitute.proofs.Multipliers.{nothing_times, at_pivot}

-- the rows and the rows below do not show one another's pivots
module _ (p : ℕ) (order : Order) (unit : Unit) (input below rows : List Row) (s : IsSubstitution p order unit input below rows) where
  both : List Row
  both = rows ++ below

  together : AreApart order both
  unfolding both
  together i j d x in_i in_j differ pivot =
      let len = length-append rows below in
      elim (cases_lt i (length rows)) [
        | inl i_first ↦
            let top : IsPivot order (get_or rows i d) x = subst (λ r. IsPivot order r x) (get_or_append_left rows below d i i_first) pivot in
            elim (cases_lt j (length rows)) [
              | inl j_first ↦ ap (λ r. coefficient r x) (get_or_append_left rows below d j j_first) ∙ s.rules.apart i j d x i_first j_first differ top
              | inr j_last ↦
                  let own = (s.rules.each i d i_first).pivot in
                  let of_unit : unit_of x ≡ unit = ap unit_of (sym (greatest_same order (get_or rows i d) own.0 x (own.1).is_greatest top.is_greatest)) ∙ own.2 in
                  let rule : Row = get_or below (j - length rows) d in
                  let none : coefficient rule x ≡ 0 = elim (decided (coefficient rule x)) [ inl e ↦ e | inr shows ↦ absurd ((s.outside.each (j - length rows) d (omega arith)).none x shows of_unit) ] in
                  ap (λ r. coefficient r x) (get_or-append_right rows below (length rows) j d refl j_last) ∙ none
            ]
        | inr i_last ↦
            let in_below : i - length rows < length below = omega arith in
            let rule : Row = get_or below (i - length rows) d in
            let top : IsPivot order rule x = subst (λ r. IsPivot order r x) (get_or-append_right rows below (length rows) i d refl i_last) pivot in
            elim (cases_lt j (length rows)) [
              | inl j_first ↦ ap (λ r. coefficient r x) (get_or_append_left rows below d j j_first) ∙ s.clear j d j_first rule x (Contains-get_or below (i - length rows) d in_below) top
              | inr j_last ↦
                  ap (λ r. coefficient r x) (get_or-append_right rows below (length rows) j d refl j_last)
                  ∙ s.outside.apart (i - length rows) (j - length rows) d x in_below (omega arith) (λ e. differ (omega arith)) top
            ]
      ]

-- a row of the one list is that of the other: it is spanned by the other list and the rows below, and is 0 at all
-- their pivots but its own
module _ (p : ℕ) (order : Order) (unit : Unit) (input below rows others : List Row) (s : IsSubstitution p order unit input below rows) (t : IsSubstitution p order unit input below others) (k : ℕ) (d : Row) (in_k : k < length input) where
  row : Row
  row = get_or others k d

  in_others : k < length others
  in_others = omega (arith, t.pivots.len)

  in_rows : k < length rows
  in_rows = omega (arith, s.pivots.len)

  spanned : InSpan p (rows ++ below) row
  unfolding row
  spanned =
      let all_in : InSpan p (input ++ below) row = All-contains (InSpan p (input ++ below)) (others ++ below) row t.span.back (Contains-append_left others below row (Contains-get_or others k d in_others)) in
      InSpan-trans p (input ++ below) (rows ++ below) row s.span.forth all_in

  -- the multiplier of a row is the value at its pivot
  value_at : (j : ℕ) (x : Integral) → j < length (rows ++ below) → IsPivot order (get_or (rows ++ below) j d) x → spanned.multiplier j % p ≡ coefficient row x
  unfolding both
  value_at j x in_j pivot = sym (at_pivot p order (rows ++ below) spanned.multiplier j d x (together p order unit input below rows s) in_j pivot) ∙ sym (spanned.is x)

  pivot_of_first : (j : ℕ) → j < length input → (x : Integral) × IsPivot order (get_or (rows ++ below) j d) x × IsPivot order (get_or others j d) x
  pivot_of_first j h =
      let own = (s.given.each j d h).pivot in
      let in_j : j < length rows = omega (arith, s.pivots.len) in
      let there = s.pivots.kept j d own.0 h own.1 in
      (own.0, subst (λ r. IsPivot order r own.0) (sym (get_or_append_left rows below d j in_j)) there, t.pivots.kept j d own.0 h own.1)

  other_multiplier : (j : ℕ) → j < length (rows ++ below) → j ≢ k → spanned.multiplier j % p ≡ 0
  unfolding row
  other_multiplier j in_j differ =
      let len = length-append rows below in
      elim (cases_lt j (length rows)) [
        | inl first ↦
            let in_input : j < length input = omega (arith, s.pivots.len) in
            let own = pivot_of_first j in_input in
            let j_others : j < length others = omega (arith, t.pivots.len) in
            value_at j own.0 in_j own.1 ∙ t.rules.apart j k d own.0 j_others in_others differ own.2
        | inr last ↦
            let in_below : j - length rows < length below = omega arith in
            let rule : Row = get_or below (j - length rows) d in
            let own = (s.outside.each (j - length rows) d in_below).pivot in
            let there : IsPivot order (get_or (rows ++ below) j d) own.0 = subst (λ r. IsPivot order r own.0) (sym (get_or-append_right rows below (length rows) j d refl last)) own.1 in
            value_at j own.0 in_j there ∙ t.clear k d in_others rule own.0 (Contains-get_or below (j - length rows) d in_below) own.1
      ]

  own_multiplier : spanned.multiplier k % p ≡ 1
  unfolding row
  own_multiplier =
      let len = length-append rows below in
      let own = pivot_of_first k in_k in
      value_at k own.0 (omega (arith, in_rows)) own.1 ∙ (own.2).one

  same_coefficient : (x : Integral) → coefficient (get_or rows k d) x ≡ coefficient row x
  same_coefficient x =
      let len = length-append rows below in
      let within : k < length (rows ++ below) = omega (arith, in_rows) in
      let lenf = length-map (rows ++ below) coefficient in
      let fs : List (Integral → ℕ) = functions (rows ++ below) in
      let c : ℕ → ℕ = spanned.multiplier in
      let here : at fs k x ≡ coefficient (get_or rows k d) x =
      ap (λ f. f x) (at-functions (rows ++ below) k d within) ∙ ap (λ r. coefficient r x) (get_or_append_left rows below d k in_rows) in
      sym (
      spanned.is x
      ∙ combination-only p c fs x k (omega arith) (λ j h differ. nothing_times p (c j) (at fs j x) (other_multiplier j (omega arith) differ))
      ∙ sym (mul-mod_first (c k) (at fs k x) p) ∙ ap (λ u. (u * at fs k x) % p) own_multiplier ∙ ap (λ u. u % p) (one-mul (at fs k x)) ∙ ap (λ u. u % p) here
      ∙ mod-eq_of_lt (((s.rules.each k d in_rows).is_row).below x)
      )

  same_at_place : get_or rows k d ≡ get_or others k d
  unfolding row
  same_at_place =
      same_row p order (get_or rows k d) (get_or others k d) ((s.rules.each k d in_rows).is_row) ((t.rules.each k d in_others).is_row) same_coefficient

pub one_substitution : (p : ℕ) (order : Order) (unit : Unit) (input below rows others : List Row) → IsSubstitution p order unit input below rows → IsSubstitution p order unit input below others → rows ≡ others
one_substitution p order unit input below rows others s t =
    same_lists rows others (s.pivots.len ∙ sym t.pivots.len)
    (λ k d h. same_at_place p order unit input below rows others s t k d (omega (arith, s.pivots.len)))
