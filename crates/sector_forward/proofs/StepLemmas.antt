-- Lemmas on the steps of the elimination.
use Rattle.std.proofs.Common.{◌≡◌, ℕ, zero, suc, ◌+◌, ◌-◌, ◌*◌, ◌%◌, ◌<◌, ◌≤◌, true, eqb, List, [], ◌∷◌, length, get_or, take, Option, Some, None, MatchOption, Ordering, refl, sym, ap, subst, ◌∙◌, inl, inr, arith}
use Rattle.std.proofs.Math.Nat.{add-mod-mod, mod_self, mul-one}
use Rattle.std.specs.declared.cmp.Ordering.TheVariants.{Less, Equal, Greater}
use Rattle.std.specs.Ordering.{ordering_reverse, ordering_index}
use Rattle.std.proofs.lemmas.Bool.{cases_order, false≢true}
use Rattle.std.proofs.lemmas.List.{get_or-take, length-take-le}
use Rattle.std.proofs.lemmas.List.Elements.{All-take}
use Rattle.integral_index.specs.declared.Order.{Order}
use Rattle.integral_index.specs.Integral.{Integral}
use Rattle.integral_index.specs.Order.{compare}
use Rattle.integral_index.proofs.Orders.{compare-total, compare-IsAntisymmetric}
use Rattle.sparse_row.specs.Row.{Row, coefficient, IsRow, IsGreatest, IsPivot}
use Rattle.sparse_row.specs.ReducedList.{Ascend}
use Rattle.sparse_row.proofs.RowValues.{greatest_same}
use Rattle.sector_forward.specs.Steps.{HasPivot, IsStairs, IsPivotAt, IsPlaceFor, ShowsNoneWithin, IsCleared, IsAboveAll}

-- what the comparison with the greatest integral says of the pivot
pub pivot_compared : (order own : Order) (row : Row) (greatest x y : Integral) → own ≡ order → IsGreatest own row greatest → IsPivot order row y → compare order greatest x ≡ compare order y x
pivot_compared order own row greatest x y e g pivot =
    ap (λ z. compare order z x) (greatest_same order row greatest y (subst (λ o. IsGreatest o row greatest) e g) pivot.is_greatest)

-- ---- looking a pivot up

-- the pivots before `low` are less than x, and those from `high` on are greater
pub record IsBetween (order : Order) (table : List Row) (x : Integral) (low high : ℕ) : Type 0 where
  pub up : low ≤ high
  pub within : high ≤ length table
  pub less : (k : ℕ) (y : Integral) → k < low → IsPivotAt order table k y → compare order y x ≡ Less
  pub greater : (k : ℕ) (y : Integral) → high ≤ k → k < length table → IsPivotAt order table k y → compare order y x ≡ Greater

pub IsBetween-all : (order : Order) (table : List Row) (x : Integral) → IsBetween order table x 0 (length table)
IsBetween-all order table x =
    record { up = omega arith; within = omega arith; less = λ k y l. absurd (omega arith); greater = λ k y l h. absurd (omega arith) }

pub IsPlaceFor-between : (order : Order) (table : List Row) (x : Integral) (low high : ℕ) → high ≤ low → IsBetween order table x low high → IsPlaceFor order table x low
IsPlaceFor-between order table x low high met b =
    let e : low ≡ high = omega (arith, b.up) in
    record {
      within = omega (arith, b.within, b.up);
      less = b.less;
      greater = λ k y l h. b.greater k y (omega arith) h;
    }

-- the pivot at a place of the stairs
pub pivot_at : (p : ℕ) (order : Order) (table : List Row) (k : ℕ) → IsStairs p order table → k < length table → (d : Row) → HasPivot order (get_or table k d)
pivot_at p order table k stairs h d = stairs.pivots k d h

pub same_at : {X : Type 0} (xs : List X) (k : ℕ) (d e : X) → k < length xs → get_or xs k d ≡ get_or xs k e
same_at [] k d e h = absurd (omega arith)
same_at (x ∷ xs) zero d e h = refl
same_at (x ∷ xs) (suc k) d e h = same_at xs k d e (omega arith)

pub IsPivotAt-from : (order : Order) (table : List Row) (k : ℕ) (d : Row) (x : Integral) → k < length table → IsPivot order (get_or table k d) x → IsPivotAt order table k x
IsPivotAt-from order table k d x h pivot e = subst (λ row. IsPivot order row x) (same_at table k d e h) pivot

-- two pivots of the stairs are as far apart as their places
pub stairs_less : (p : ℕ) (order : Order) (table : List Row) (i j : ℕ) (d : Row) (x y : Integral) → IsStairs p order table → i < j → j < length table → IsPivotAt order table i x → IsPivotAt order table j y → compare order x y ≡ Less
stairs_less p order table i j d x y stairs l h s t = stairs.ascend i j d l h x y (s d).is_greatest (t d).is_greatest

module _ (p : ℕ) (order : Order) (table : List Row) (stairs : IsStairs p order table) (x : Integral) (low middle high : ℕ) (row : Row) where
  -- the row that was read has a pivot
  pub pivot_of_read : middle < length table → row ≡ get_or table middle row → HasPivot order row
  pivot_of_read h e = subst (HasPivot order) (sym e) (stairs.pivots middle row h)

  pub ordered_of_read : middle < length table → row ≡ get_or table middle row → row.order ≡ order
  ordered_of_read h e = ap (λ r. r.order) e ∙ (stairs.rows middle row h).ordered

  at_read : middle < length table → row ≡ get_or table middle row → (y : Integral) → IsPivotAt order table middle y → IsPivot order row y
  at_read h e y pivot = subst (λ r. IsPivot order r y) (sym e) (pivot row)

  pub IsPivotAt-read : middle < length table → row ≡ get_or table middle row → (y : Integral) → IsPivot order row y → IsPivotAt order table middle y
  IsPivotAt-read h e y pivot = IsPivotAt-from order table middle row y h (subst (λ r. IsPivot order r y) e pivot)

  pub between_up : middle < high → IsBetween order table x low high → row ≡ get_or table middle row → ((y : Integral) → IsPivot order row y → Less ≡ compare order y x) → IsBetween order table x (middle + 1) high
  between_up l b e less =
      let within : middle < length table = omega (arith, b.within) in
      let z = (pivot_of_read within e).0 in
      let top = (pivot_of_read within e).1 in
      let there = IsPivotAt-read within e z top in
      record {
        up = omega arith;
        within = b.within;
        less = λ k y h pivot.
            elim (cases_order k middle) [
              | inl same ↦ sym (less y (at_read within e y (subst (λ n. IsPivotAt order table n y) same pivot)))
              | inr (inl before) ↦ (compare-total order).trans y z x (stairs_less p order table k middle row y z stairs before within pivot there) (sym (less z top))
              | inr (inr after) ↦ absurd (omega arith)
            ];
        greater = b.greater;
      }

  pub between_down : middle < high → low ≤ middle → IsBetween order table x low high → row ≡ get_or table middle row → ((y : Integral) → IsPivot order row y → Greater ≡ compare order y x) → IsBetween order table x low middle
  between_down l u b e greater =
      let within : middle < length table = omega (arith, b.within) in
      let z = (pivot_of_read within e).0 in
      let top = (pivot_of_read within e).1 in
      let there = IsPivotAt-read within e z top in
      let x_below : compare order x z ≡ Less = (compare-total order).antisymm x z ∙ ap ordering_reverse (sym (greater z top)) in
      let turned : (y : Integral) → compare order x y ≡ Less → compare order y x ≡ Greater = λ y h. (compare-total order).antisymm y x ∙ ap ordering_reverse h in
      record {
        up = u;
        within = omega arith;
        less = b.less;
        greater = λ k y h in_k pivot.
            elim (cases_order k middle) [
              | inl same ↦ sym (greater y (at_read within e y (subst (λ n. IsPivotAt order table n y) same pivot)))
              | inr (inl before) ↦ absurd (omega arith)
              | inr (inr after) ↦ turned y ((compare-total order).trans x z y x_below (stairs_less p order table middle k row z y stairs after in_k there pivot))
            ];
      }

  pub found_at : middle < length table → row ≡ get_or table middle row → ((y : Integral) → IsPivot order row y → Equal ≡ compare order y x) → IsPivotAt order table middle x
  found_at within e equal =
      let z = (pivot_of_read within e).0 in
      let top = (pivot_of_read within e).1 in
      subst (λ y. IsPivotAt order table middle y) (compare-IsAntisymmetric order z x (sym (equal z top))) (IsPivotAt-read within e z top)

-- ---- clearing a pivot

pub IsRow-in : (p : ℕ) (order other : Order) (row : Row) → order ≡ other → IsRow p order row → IsRow p other row
IsRow-in p order other row e is = subst (λ o. IsRow p o row) e is

-- a residue and its opposite
pub opposite_sum : (p c : ℕ) → c < p → (c + (p - c) % p) % p ≡ 0
opposite_sum p c small =
    let whole : c + (p - c) ≡ p = omega arith in
    add-mod-mod c (p - c) p ∙ ap (λ u. u % p) whole ∙ mod_self p

pub clears_from : (p : ℕ) (order own : Order) (row rule : Row) (greatest : Integral) (factor : ℕ) → own ≡ order → IsRow p order row → IsGreatest own rule greatest → factor ≡ (p - coefficient row greatest) % p → (x : Integral) → IsPivot order rule x → (coefficient row x + factor) % p ≡ 0
clears_from p order own row rule greatest factor e is g value x pivot =
    let same : greatest ≡ x = greatest_same order rule greatest x (subst (λ o. IsGreatest o rule greatest) e g) pivot.is_greatest in
    ap (λ u. (coefficient row x + u) % p) (value ∙ ap (λ z. (p - coefficient row z) % p) same) ∙ opposite_sum p (coefficient row x) (is.below x)

pub IsCleared-from : (p : ℕ) (order : Order) (rule old new : Row) (factor : ℕ) → ((x : Integral) → IsPivot order rule x → (coefficient old x + factor) % p ≡ 0) → ((y : Integral) → coefficient new y ≡ (coefficient old y + factor * coefficient rule y) % p) → IsCleared p order rule old new
IsCleared-from p order rule old new factor clears sum =
    record {
      factor = factor;
      is = sum;
      gone = λ x pivot. sum x ∙ ap (λ u. (coefficient old x + factor * u) % p) pivot.one ∙ ap (λ u. (coefficient old x + u) % p) (mul-one factor) ∙ clears x pivot;
    }

-- ---- the front of the stairs

-- an element of the front of a list
front_at : {X : Type 0} (xs : List X) (n k : ℕ) (d : X) → k < n → n ≤ length xs → get_or (take n xs) k d ≡ get_or xs k d
front_at xs n k d l h = get_or-take n xs k d l

pub IsStairs-take : (p : ℕ) (order : Order) (table : List Row) (n : ℕ) → n ≤ length table → IsStairs p order table → IsStairs p order (take n table)
IsStairs-take p order table n h stairs =
    let len : length (take n table) ≡ n = length-take-le n table h in
    record {
      rows = All-take (IsRow p order) n table stairs.rows;
      pivots = All-take (HasPivot order) n table stairs.pivots;
      ascend = λ i j d l in_j.
          subst (λ row. Ascend order row (get_or (take n table) j d)) (sym (front_at table n i d (omega arith) h))
          (subst (λ row. Ascend order (get_or table i d) row) (sym (front_at table n j d (omega arith) h)) (stairs.ascend i j d l (omega arith)));
    }

pub IsPivotAt-take : (order : Order) (table : List Row) (n k : ℕ) (y : Integral) → n ≤ length table → k < n → IsPivotAt order table k y → IsPivotAt order (take n table) k y
IsPivotAt-take order table n k y h l pivot d = subst (λ row. IsPivot order row y) (sym (front_at table n k d l h)) (pivot d)

pub ShowsNoneWithin-take : (order : Order) (table : List Row) (n low : ℕ) (row : Row) → n ≤ length table → ShowsNoneWithin order (take n table) low (length (take n table)) row → ShowsNoneWithin order table low n row
ShowsNoneWithin-take order table n low row h none k y l u pivot =
    let len : length (take n table) ≡ n = length-take-le n table h in
    none k y l (omega arith) (IsPivotAt-take order table n k y h u pivot)

pub match_weaker : {X P P' : Type 0} {Q Q' : X → Type 0} (o : Option X) → (P → P') → ((x : X) → Q x → Q' x) → MatchOption o P Q → MatchOption o P' Q'
match_weaker None none some h = none h
match_weaker (Some x) none some h = some x h

-- ---- an integral above all pivots

pub place_above_all : (order : Order) (table : List Row) (x : Integral) → IsAboveAll order table x → IsPlaceFor order table x (length table)
place_above_all order table x above =
    record { within = omega arith; less = λ k y l pivot. above k y l pivot; greater = λ k y l h. absurd (omega arith) }

pub above_all_by_last : (p : ℕ) (order : Order) (table : List Row) (x : Integral) (n : ℕ) (row : Row) → IsStairs p order table → n + 1 ≡ length table → row ≡ get_or table n row → ((y : Integral) → IsPivot order row y → Less ≡ compare order y x) → IsAboveAll order table x
above_all_by_last p order table x n row stairs last read less k y in_k pivot =
    let b = between_up p order table stairs x 0 n (length table) row (omega arith) (IsBetween-all order table x) read less in
    b.less k y (omega arith) pivot

-- a comparison that answered `Less`
pub less_of_index : (r : Ordering) → eqb (ordering_index r) 0 ≡ true → r ≡ Less
less_of_index Less h = refl
less_of_index Equal h = absurd (false≢true h)
less_of_index Greater h = absurd (false≢true h)
