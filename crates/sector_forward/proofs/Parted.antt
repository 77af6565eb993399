-- Reduced rows that are parted by unit are an elimination.
use Rattle.std.proofs.Common.{◌≡◌, ◌≢◌, ℕ, ◌*◌, ◌%◌, ◌<◌, ◌≤◌, List, [], ◌∷◌, ◌++◌, length, get_or, All, AllPairs, Contains, refl, sym, ap, subst, ◌∙◌, inl, inr, arith, length-append}
use Rattle.std.specs.Ordering.{ordering_reverse}
use Rattle.std.specs.declared.cmp.Ordering.TheVariants.{Less, Equal, Greater}
use Rattle.std.proofs.Math.Nat.{zero-mod, mul-zero}
use Rattle.std.proofs.lemmas.Bool.{cases_lt}
use Rattle.std.proofs.lemmas.Cmp.{tied_itself}
use Rattle.std.proofs.lemmas.List.{length-map}
use Rattle.std.proofs.lemmas.List.Elements.{All-push, All-contains, Contains-get_or, Contains-push, Contains-push_cases, Contains-append_left, Contains-append_right, Contains-append_cases}
use Rattle.std.proofs.lemmas.List.Quantifiers.{all_pairs_push}
use Rattle.integral_index.specs.declared.Order.{Order}
use Rattle.integral_index.specs.declared.Unit.{Unit}
use Rattle.integral_index.specs.Integral.{Integral}
use Rattle.integral_index.specs.Order.{compare, unit_of, unit_compare}
use Rattle.integral_index.proofs.Orders.{compare-total, compare-IsAntisymmetric, compare-of_units, unit_compare-total}
use Rattle.sparse_row.specs.Row.{Row, coefficient, Shows, IsRow, IsGreatest, IsPivot}
use Rattle.sparse_row.specs.Span.{InSpan, SameSpan}
use Rattle.sparse_row.specs.ReducedList.{Ascend, IsReduced}
use Rattle.sparse_row.proofs.Spans.{at, combination-some}
use Rattle.sparse_row.proofs.RowSpans.{no_row, functions, at-functions, SameSpan-trans}
use Rattle.sector_forward.specs.Elimination.{IsTaken, AreApart, IsElimination, IsShownBySome}
use Rattle.sector_forward.specs.Parting.{HasPivotIn, HasPivotOutside, IsParted}
use Rattle.sector_forward.proofs.Keys.{decided}
use Rattle.sector_forward.proofs.Taking.{members_spanned}

-- ---- parting

pub IsParted-start : (order : Order) (unit : Unit) → IsParted order unit [] [] []
IsParted-start order unit =
    record {
      have_own = λ k d h. absurd (omega arith);
      have_other = λ k d h. absurd (omega arith);
      ascend = λ i j d l h. absurd (omega arith);
      of_own = λ row member. absurd (omega (arith, member.1));
      of_rest = λ row member. absurd (omega (arith, member.1));
      whole = λ row member. absurd (omega (arith, member.1));
      count = refl;
    }

-- a member of a list with one more at its end
push_member : (all part : List Row) (row : Row) → ((r : Row) → Contains part r → Contains all r) → (r : Row) → Contains (part ++ row ∷ []) r → Contains (all ++ row ∷ []) r
push_member all part row within r member =
    elim (Contains-push_cases part row r member) [
      | inl old ↦ Contains-append_left all (row ∷ []) r (within r old)
      | inr new ↦ subst (Contains (all ++ row ∷ [])) new (Contains-push all row)
    ]

module _ (order : Order) (unit : Unit) (all own rest : List Row) (row : Row) (p : IsParted order unit all own rest) where
  pub IsParted-own : HasPivotIn order unit row → ((k : ℕ) (d : Row) → k < length all → Ascend order (get_or all k d) row) → IsParted order unit (all ++ row ∷ []) (own ++ row ∷ []) rest
  IsParted-own pivot above =
      record {
        have_own = All-push (HasPivotIn order unit) own row p.have_own pivot;
        have_other = p.have_other;
        ascend = all_pairs_push (Ascend order) own row p.ascend
            (λ k d h.
            let member = p.of_own (get_or own k d) (Contains-get_or own k d h) in
            subst (λ r. Ascend order r row) member.2 (above member.0 (get_or own k d) member.1));
        of_own = push_member all own row p.of_own;
        of_rest = λ r member. Contains-append_left all (row ∷ []) r (p.of_rest r member);
        whole = λ r member.
            elim (Contains-push_cases all row r member) [
              | inl old ↦ elim (p.whole r old) [ inl mine ↦ inl (Contains-append_left own (row ∷ []) r mine) | inr other ↦ inr other ]
              | inr new ↦ inl (subst (Contains (own ++ row ∷ [])) new (Contains-push own row))
            ];
        count = let one = length-append own (row ∷ []) in let two = length-append all (row ∷ []) in omega (arith, p.count);
      }

  pub IsParted-rest : HasPivotOutside order unit row → IsParted order unit (all ++ row ∷ []) own (rest ++ row ∷ [])
  IsParted-rest pivot =
      record {
        have_own = p.have_own;
        have_other = All-push (HasPivotOutside order unit) rest row p.have_other pivot;
        ascend = p.ascend;
        of_own = λ r member. Contains-append_left all (row ∷ []) r (p.of_own r member);
        of_rest = push_member all rest row p.of_rest;
        whole = λ r member.
            elim (Contains-push_cases all row r member) [
              | inl old ↦ elim (p.whole r old) [ inl mine ↦ inl mine | inr other ↦ inr (Contains-append_left rest (row ∷ []) r other) ]
              | inr new ↦ inr (subst (Contains (rest ++ row ∷ [])) new (Contains-push rest row))
            ];
        count = let one = length-append rest (row ∷ []) in let two = length-append all (row ∷ []) in omega (arith, p.count);
      }

-- ---- what a spanned row shows

pub shown_by_span : (p : ℕ) (rows : List Row) (row : Row) (x : Integral) → InSpan p rows row → Shows row x → IsShownBySome rows x
shown_by_span p rows row x s shows =
    let found = combination-some p s.multiplier (functions rows) x (λ e. shows (s.is x ∙ e)) in
    let k = found.0 in
    let within : k < length rows = let len = length-map rows coefficient in omega (arith, found.1) in
    let shown : at (functions rows) k x ≢ 0 = λ e. found.2 (ap (λ u. (s.multiplier k * u) % p) e ∙ ap (λ u. u % p) (mul-zero (s.multiplier k)) ∙ zero-mod p) in
    (get_or rows k no_row, Contains-get_or rows k no_row within, λ e. shown (ap (λ f. f x) (at-functions rows k no_row within) ∙ e))

-- ---- the elimination

not_less_itself : (order : Order) (x : Integral) → compare order x x ≢ Less
not_less_itself order x less = let same = tied_itself (compare-total order) x in cc

-- an integral that is shown by a row of which another unit's integral is the greatest, and by what the unit took, is not of the unit
module _ (p : ℕ) (order : Order) (unit : Unit) (taken : List Row) (are : All (IsTaken p order unit) taken) (row : Row) (spanned : InSpan p taken row) (y : Integral) (top : IsGreatest order row y) (other : unit_of y ≢ unit) where
  y_below : unit_compare (unit_of y) unit ≡ Less
  y_below =
      let shown = shown_by_span p taken row y spanned top.shown in
      let of_unit = (All-contains (IsTaken p order unit) taken shown.0 are shown.1).greatest in
      let g = of_unit.0 in
      let apart : unit_of y ≢ unit_of g = λ e. other (e ∙ of_unit.2) in
      let by_units : compare order y g ≡ unit_compare (unit_of y) unit = compare-of_units order y g apart ∙ ap (unit_compare (unit_of y)) of_unit.2 in
      let not_greater : unit_compare (unit_of y) unit ≢ Greater = λ e. (of_unit.1).greatest y shown.2 (by_units ∙ e) in
      let not_equal : unit_compare (unit_of y) unit ≢ Equal = λ e. apart (ap unit_of (compare-IsAntisymmetric order y g (by_units ∙ e))) in
      elim (unit_compare (unit_of y) unit) as (λ o. o ≢ Greater → o ≢ Equal → o ≡ Less) [
        | Less ↦ λ _ _. refl
        | Equal ↦ λ _ h. absurd (h refl)
        | Greater ↦ λ h _. absurd (h refl)
      ] not_greater not_equal

  pub shows_nothing_of : (x : Integral) → Shows row x → unit_of x ≢ unit
  shows_nothing_of x shows same =
      let apart : unit_of x ≢ unit_of y = λ e. other (sym e ∙ same) in
      let turned : unit_compare unit (unit_of y) ≡ Greater = unit_compare-total.antisymm unit (unit_of y) ∙ ap ordering_reverse y_below in
      top.greatest x shows (compare-of_units order x y apart ∙ ap (λ u. unit_compare u (unit_of y)) same ∙ turned)

AreApart-from : (p : ℕ) (order : Order) (taken table own : List Row) → IsReduced p order taken table → AllPairs (Ascend order) own → ((row : Row) → Contains own row → Contains table row) → AreApart order own
AreApart-from p order taken table own reduced ascend within i j d x in_i in_j differ pivot =
    let first = get_or own i d in
    let second = get_or own j d in
    elim (decided (coefficient second x)) [
      | inl none ↦ none
      | inr shows ↦
          let again : IsPivot order second x = reduced.echelon.apart first second x (within first (Contains-get_or own i d in_i)) (within second (Contains-get_or own j d in_j)) pivot shows in
          elim (cases_lt i j) [
            | inl before ↦ absurd (not_less_itself order x (ascend i j d before in_j x x pivot.is_greatest again.is_greatest))
            | inr after ↦ absurd (not_less_itself order x (ascend j i d (omega (arith, differ)) in_i x x again.is_greatest pivot.is_greatest))
          ]
    ]

pub IsElimination-from_parted : (p : ℕ) (order : Order) (unit : Unit) (taken table own rest : List Row) → All (IsTaken p order unit) taken → IsReduced p order taken table → length table ≤ length taken → IsParted order unit table own rest → IsElimination p order unit taken own rest
IsElimination-from_parted p order unit taken table own rest are reduced few parted =
    let row_in : (row : Row) → Contains table row → IsRow p order row = λ row member. All-contains (IsRow p order) table row reduced.echelon.rows member in
    let spanned_in : (row : Row) → Contains table row → InSpan p taken row = λ row member. All-contains (InSpan p taken) table row reduced.spanned member in
    let both = own ++ rest in
    let of_both : (row : Row) → Contains both row → Contains table row =
    λ row member. elim (Contains-append_cases own rest row member) [ inl mine ↦ parted.of_own row mine | inr other ↦ parted.of_rest row other ] in
    let in_both : (row : Row) → Contains table row → Contains both row =
    λ row member. elim (parted.whole row member) [ inl mine ↦ Contains-append_left own rest row mine | inr other ↦ Contains-append_right own rest row other ] in
    let rows_both : All (IsRow p order) both = λ k d h. row_in (get_or both k d) (of_both (get_or both k d) (Contains-get_or both k d h)) in
    let same : SameSpan p table both =
    record { forth = members_spanned p order table both reduced.echelon.rows in_both; back = members_spanned p order both table rows_both of_both } in
    record {
      are_taken = are;
      are_rules = λ k d h. record { is_row = row_in (get_or own k d) (parted.of_own (get_or own k d) (Contains-get_or own k d h)); pivot = parted.have_own k d h };
      apart = AreApart-from p order taken table own reduced parted.ascend parted.of_own;
      are_outside = λ k d h.
          let row = get_or rest k d in
          let member = parted.of_rest row (Contains-get_or rest k d h) in
          let y = (parted.have_other k d h).0 in
          let pivot = (parted.have_other k d h).1 in
          record {
            is_row = row_in row member;
            some = λ empty. pivot.is_greatest.shown (empty y);
            none = shows_nothing_of p order unit taken are row (spanned_in row member) y pivot.is_greatest (parted.have_other k d h).2;
          };
      span = SameSpan-trans p taken table both (record { forth = reduced.spans; back = reduced.spanned }) same;
      few = omega (arith, parted.count);
    }
