-- One more row is cleared of the pivots of the table.
use Rattle.std.proofs.Common.{◌≡◌, ℕ, ◌<◌, List, [], ◌∷◌, ◌++◌, length, get_or, All, Contains, refl, sym, ap, subst, ◌∙◌, inl, inr, arith, length-append}
use Rattle.std.specs.Ordering.{ordering_reverse}
use Rattle.std.specs.declared.cmp.Ordering.TheVariants.{Less, Greater}
use Rattle.std.proofs.lemmas.Bool.{cases_lt}
use Rattle.std.proofs.lemmas.List.{get_or_append_left, get_or_push}
use Rattle.std.proofs.lemmas.List.Elements.{All-push, Contains-push_cases, Contains-append_left, Contains-push}
use Rattle.std.proofs.lemmas.List.Quantifiers.{all_pairs_push}
use Rattle.std.proofs.lemmas.List.Sorted.{All-permutation, Contains-permutation, IsPermutation-sym}
use Rattle.std.specs.List.Sorted.{IsPermutation}
use Rattle.integral_index.specs.declared.Order.{Order}
use Rattle.integral_index.specs.Integral.{Integral}
use Rattle.integral_index.specs.Order.{compare}
use Rattle.integral_index.proofs.Orders.{compare-total}
use Rattle.sparse_row.specs.Row.{Row, coefficient, IsRow, IsPivot}
use Rattle.sparse_row.specs.Span.{InSpan, SameSpan}
use Rattle.sparse_row.specs.ReducedList.{Ascend, IsEchelon, IsReduced}
use Rattle.sparse_row.proofs.RowSpans.{no_row, functions, IsSpanned-from_row, InSpan-from_function, AllSpanned-from_rows, InSpan-member, SameSpan-trans}
use Rattle.sector_forward.specs.Differences.{DifferBySpan}
use Rattle.sector_forward.specs.Steps.{HasPivot, IsStairs, IsPivotAt, ShowsNoneWithin, IsAboveAll, SameAbove, IsForward, IsBack}
use Rattle.sparse_row.proofs.RowValues.{greatest_same}
use Rattle.sector_forward.proofs.StepLemmas.{same_at, IsPivotAt-from, stairs_less}
use Rattle.sector_forward.proofs.Clearing.{none_above}
use Rattle.sector_forward.proofs.Taking.{members_spanned, spanned_by_difference, differ_turned, SameSpan-push}

pub IsStairs-from_echelon : (p : ℕ) (order : Order) (table : List Row) → IsEchelon p order table → IsStairs p order table
IsStairs-from_echelon p order table e = record { rows = e.rows; pivots = e.pivots; ascend = e.ascend }

module _ (p : ℕ) (order : Order) (table : List Row) (row cleared : Row) (x : Integral) (stairs : IsStairs p order table) (pivot : IsPivot order row x) (above_all : IsAboveAll order table x) (same : SameAbove order table row cleared) where
  -- the pivot stays: nothing from it on was changed
  pub pivot_stays : IsPivot order cleared x
  pivot_stays =
      let greater_above : (y : Integral) → compare order y x ≡ Greater → IsAboveAll order table y =
      λ y h k z in_k there.
      let x_less : compare order x y ≡ Less = (compare-total order).antisymm x y ∙ ap ordering_reverse h in
      (compare-total order).trans z x y (above_all k z in_k there) x_less in
      let one : coefficient cleared x ≡ 1 = same x above_all ∙ pivot.one in
      record {
        is_greatest = record {
          shown = λ e. absurd (omega (arith, one));
          greatest = λ y shows h. pivot.is_greatest.greatest y (λ none. shows (same y (greater_above y h) ∙ none)) h;
        };
        one = one;
      }

-- the rows of a table show nothing above all its pivots
none_above_all : (p : ℕ) (order : Order) (table : List Row) (row : Row) (x : Integral) → IsStairs p order table → IsAboveAll order table x → Contains table row → coefficient row x ≡ 0
none_above_all p order table row x stairs above member =
    let k = member.0 in
    let z = (stairs.pivots k row member.1).0 in
    let top = (stairs.pivots k row member.1).1 in
    none_above order row z x (subst (λ r. IsPivot order r z) member.2 top) (above k z member.1 (IsPivotAt-from order table k row z member.1 top))

pub IsEchelon-push : (p : ℕ) (order : Order) (table : List Row) (row : Row) (x : Integral) → IsEchelon p order table → IsRow p order row → IsPivot order row x → IsAboveAll order table x → ShowsNoneWithin order table 0 (length table) row → IsEchelon p order (table ++ row ∷ [])
IsEchelon-push p order table row x e is pivot above none =
    let stairs = IsStairs-from_echelon p order table e in
    record {
      rows = All-push (IsRow p order) table row e.rows is;
      pivots = All-push (HasPivot order) table row e.pivots (x, pivot);
      ascend = all_pairs_push (Ascend order) table row e.ascend
          (λ k d in_k y z g h.
          let w = (e.pivots k d in_k).0 in
          let top = (e.pivots k d in_k).1 in
          let same_y : w ≡ y = greatest_same order (get_or table k d) w y top.is_greatest g in
          let same_z : x ≡ z = greatest_same order row x z pivot.is_greatest h in
          subst (λ u. compare order u z ≡ Less) same_y (subst (λ u. compare order w u ≡ Less) same_z (above k w in_k (IsPivotAt-from order table k d w in_k top))));
      apart = λ first second y in_first in_second top shows.
          elim (Contains-push_cases table row first in_first) [
            | inl first_old ↦
                elim (Contains-push_cases table row second in_second) [
                  | inl second_old ↦ e.apart first second y first_old second_old top shows
                  | inr second_new ↦
                      let k = first_old.0 in
                      let there : IsPivotAt order table k y = IsPivotAt-from order table k first y first_old.1 (subst (λ r. IsPivot order r y) (sym first_old.2) top) in
                      absurd (shows (subst (λ r. coefficient r y ≡ 0) second_new (none k y (omega arith) first_old.1 there)))
                ]
            | inr first_new ↦
                let own : x ≡ y = greatest_same order row x y pivot.is_greatest (subst (λ r. IsPivot order r y) (sym first_new) top).is_greatest in
                elim (Contains-push_cases table row second in_second) [
                  | inl second_old ↦ absurd (shows (subst (λ u. coefficient second u ≡ 0) own (none_above_all p order table second x stairs above second_old)))
                  | inr second_new ↦ subst (λ r. IsPivot order r y) (sym first_new ∙ second_new) top
                ]
          ];
    }

-- a table and a row, and the table and the cleared row, span the same
cleared_span : (p : ℕ) (order : Order) (table : List Row) (row cleared : Row) → 0 < p → All (IsRow p order) table → IsRow p order row → IsRow p order cleared → DifferBySpan p table row cleared → SameSpan p (table ++ row ∷ []) (table ++ cleared ∷ [])
cleared_span p order table row cleared positive rows is_row is_cleared differ =
    let first : List Row = table ++ row ∷ [] in
    let second : List Row = table ++ cleared ∷ [] in
    let first_table : All (InSpan p first) table = members_spanned p order table first rows (λ r m. Contains-append_left table (row ∷ []) r m) in
    let second_table : All (InSpan p second) table = members_spanned p order table second rows (λ r m. Contains-append_left table (cleared ∷ []) r m) in
    let row_first = InSpan-member p first row is_row.below (Contains-push table row) in
    let cleared_second = InSpan-member p second cleared is_cleared.below (Contains-push table cleared) in
    record {
      forth = All-push (InSpan p second) table row second_table
          (InSpan-from_function p second row is_row.below (spanned_by_difference p (functions second) table row cleared differ (AllSpanned-from_rows p table second second_table) (IsSpanned-from_row p second cleared cleared_second)));
      back = All-push (InSpan p first) table cleared first_table
          (InSpan-from_function p first cleared is_cleared.below
          (spanned_by_difference p (functions first) table cleared row (differ_turned p table row cleared positive differ) (AllSpanned-from_rows p table first first_table) (IsSpanned-from_row p first row row_first)));
    }

pub IsBack-start : (p : ℕ) (order : Order) → IsBack p order [] []
IsBack-start p order =
    record {
      echelon = record {
        rows = λ k d h. absurd (omega arith);
        pivots = λ k d h. absurd (omega arith);
        ascend = λ i j d l h. absurd (omega arith);
        apart = λ row other x member _ _ _. absurd (omega (arith, member.1));
      };
      span = record { forth = λ k d h. absurd (omega arith); back = λ k d h. absurd (omega arith) };
      len = refl;
      pivots = λ k x h pivot. absurd (omega arith);
    }

-- the pivots of the table that comes about are those of the rows, so the next row's pivot is above them
pub above_done : (p : ℕ) (order : Order) (rows done table : List Row) (row : Row) (x : Integral) → IsStairs p order rows → IsBack p order done table → ((k : ℕ) (d : Row) → k < length done → get_or done k d ≡ get_or rows k d) → length done < length rows → row ≡ get_or rows (length done) row → IsPivot order row x → IsAboveAll order table x
above_done p order rows done table row x stairs b front next read pivot k y in_k there =
    let in_done : k < length done = omega (arith, b.len) in
    let in_rows : k < length rows = omega arith in
    let z = (stairs.pivots k no_row in_rows).0 in
    let top : IsPivot order (get_or rows k no_row) z = (stairs.pivots k no_row in_rows).1 in
    let old : IsPivotAt order done k z = IsPivotAt-from order done k no_row z in_done (subst (λ r. IsPivot order r z) (sym (front k no_row in_done)) top) in
    let new : IsPivotAt order table k z = b.pivots k z in_done old in
    let one : z ≡ y = greatest_same order (get_or table k no_row) z y (new no_row).is_greatest (there no_row).is_greatest in
    let here : IsPivotAt order rows (length done) x = IsPivotAt-from order rows (length done) row x next (subst (λ r. IsPivot order r x) read pivot) in
    subst (λ u. compare order u x ≡ Less) one (stairs_less p order rows k (length done) no_row z x stairs in_done next (IsPivotAt-from order rows k no_row z in_rows top) here)

pub IsBack-more : (p : ℕ) (order : Order) (done table : List Row) (row cleared : Row) (x : Integral) → All (IsRow p order) done → IsRow p order row → IsBack p order done table → IsRow p order cleared → IsPivot order row x → IsPivot order cleared x → IsAboveAll order table x → ShowsNoneWithin order table 0 (length table) cleared → DifferBySpan p table row cleared → IsBack p order (done ++ row ∷ []) (table ++ cleared ∷ [])
IsBack-more p order done table row cleared x rows is_row b is_cleared pivot kept above none differ =
    let positive : 0 < p = omega (arith, is_row.below x) in
    let len_new = length-append table (cleared ∷ []) in
    let len_old = length-append done (row ∷ []) in
    record {
      echelon = IsEchelon-push p order table cleared x b.echelon is_cleared kept above none;
      span = SameSpan-trans p (done ++ row ∷ []) (table ++ row ∷ []) (table ++ cleared ∷ []) (SameSpan-push p order done table row rows b.echelon.rows is_row b.span)
          (cleared_span p order table row cleared positive b.echelon.rows is_row is_cleared differ);
      len = omega (arith, b.len);
      pivots = λ k y h there.
          elim (cases_lt k (length done)) [
            | inl before ↦
                let old : IsPivotAt order done k y = λ d. subst (λ r. IsPivot order r y) (get_or_append_left done (row ∷ []) d k before) (there d) in
                let new = b.pivots k y before old in
                let within : k < length table = omega (arith, b.len) in
                λ d. subst (λ r. IsPivot order r y) (sym (get_or_append_left table (cleared ∷ []) d k within)) (new d)
            | inr last ↦
                let at_done : k ≡ length done = omega arith in
                let at_table : k ≡ length table = omega (arith, b.len) in
                let own : IsPivot order row y = subst (λ r. IsPivot order r y) (ap (λ n. get_or (done ++ row ∷ []) n row) at_done ∙ get_or_push done row row (length done) refl) (there row) in
                let one : x ≡ y = greatest_same order row x y pivot.is_greatest own.is_greatest in
                λ d. subst (λ r. IsPivot order r y) (sym (ap (λ n. get_or (table ++ cleared ∷ []) n d) at_table ∙ get_or_push table cleared d (length table) refl)) (subst (IsPivot order cleared) one kept)
          ];
    }

-- both passes together give the reduced list
pub IsReduced-from_passes : (p : ℕ) (order : Order) (rows sorted stairs table : List Row) → SameSpan p rows sorted → IsForward p order sorted stairs → IsBack p order stairs table → IsReduced p order rows table
IsReduced-from_passes p order rows sorted stairs table same f b =
    let whole = SameSpan-trans p rows stairs table (SameSpan-trans p rows sorted stairs same f.span) b.span in
    record { echelon = b.echelon; spanned = whole.back; spans = whole.forth }

-- ---- the loop

-- the rows so far are the first of the rows, and the table is made of them
pub record IsSoFar (p : ℕ) (order : Order) (rows done table : List Row) : Type 0 where
  pub taken : All (IsRow p order) done
  pub front : (k : ℕ) (d : Row) → k < length done → get_or done k d ≡ get_or rows k d
  pub made : IsBack p order done table

pub IsSoFar-start : (p : ℕ) (order : Order) (rows : List Row) → IsSoFar p order rows [] []
IsSoFar-start p order rows =
    record { taken = λ k d h. absurd (omega arith); front = λ k d h. absurd (omega arith); made = IsBack-start p order }

module _ (p : ℕ) (order : Order) (rows done table : List Row) (row : Row) (stairs : IsStairs p order rows) (s : IsSoFar p order rows done table) (next : length done < length rows) (read : row ≡ get_or rows (length done) row) where
  pub next_row : IsRow p order row
  next_row = subst (IsRow p order) (sym read) (stairs.rows (length done) row next)

  pub IsSoFar-more : (cleared : Row) → IsRow p order cleared → ShowsNoneWithin order table 0 (length table) cleared → DifferBySpan p table row cleared → SameAbove order table row cleared → IsSoFar p order rows (done ++ row ∷ []) (table ++ cleared ∷ [])
  IsSoFar-more cleared is none differ same =
      let x = (stairs.pivots (length done) row next).0 in
      let pivot : IsPivot order row x = subst (λ r. IsPivot order r x) (sym read) (stairs.pivots (length done) row next).1 in
      let above : IsAboveAll order table x = above_done p order rows done table row x stairs s.made s.front next read pivot in
      let before = IsStairs-from_echelon p order table s.made.echelon in
      record {
        taken = All-push (IsRow p order) done row s.taken next_row;
        front = λ k d h.
            let len = length-append done (row ∷ []) in
            elim (cases_lt k (length done)) [
              | inl old ↦ get_or_append_left done (row ∷ []) d k old ∙ s.front k d old
              | inr last ↦
                  let here : length done ≡ k = omega arith in
                  get_or_push done row d k here ∙ read ∙ same_at rows (length done) row d next ∙ ap (λ n. get_or rows n d) here
            ];
        made = IsBack-more p order done table row cleared x s.taken next_row s.made is pivot (pivot_stays p order table row cleared x before pivot above same) above none differ;
      }

-- rows in another order have the same span
pub SameSpan-permutation : (p : ℕ) (order : Order) (rows sorted : List Row) → All (IsRow p order) rows → IsPermutation rows sorted → SameSpan p rows sorted
SameSpan-permutation p order rows sorted is moved =
    record {
      forth = members_spanned p order rows sorted is (λ r m. Contains-permutation rows sorted r moved m);
      back = members_spanned p order sorted rows (All-permutation (IsRow p order) rows sorted moved is) (λ r m. Contains-permutation sorted rows r (IsPermutation-sym rows sorted moved) m);
    }
