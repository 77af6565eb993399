-- There is only one reduced list: the law over functions, carried to rows.
use Rattle.std.proofs.Common.{◌≡◌, ℕ, ◌<◌, List, length, get_or, Contains, sym, ap, subst, ◌∙◌, arith}
use Rattle.std.proofs.lemmas.Cmp.{tied_itself}
use Rattle.std.proofs.lemmas.List.{length-map}
use Rattle.std.proofs.lemmas.List.Elements.{Contains-get_or}
use Rattle.std.specs.declared.cmp.Ordering.TheVariants.{Less}
use Rattle.integral_index.specs.declared.Order.{Order}
use Rattle.integral_index.specs.Integral.{Integral}
use Rattle.integral_index.specs.Order.{compare}
use Rattle.integral_index.proofs.Orders.{compare-total, compare-IsAntisymmetric}
use Rattle.sparse_row.specs.Row.{Row, coefficient, IsRow, IsPivot}
use Rattle.sparse_row.specs.Span.{SameSpan}
use Rattle.sparse_row.specs.ReducedList.{Ascend, IsEchelon, IsReduced}
use Rattle.sparse_row.proofs.RowValues.{same_row}
use Rattle.sparse_row.proofs.Spans.{at}
use Rattle.sparse_row.proofs.RowSpans.{functions, no_row, at-functions, AllSpanned-from_rows, All_in_span-trans}
use Rattle.reduction_core.proofs.Law.{IsTop, IsStair, matched}
use Rattle.sector_forward.proofs.Members.{same_from_members}

module _ (p : ℕ) (order : Order) where
  pub IsTop-from_pivot : (row : Row) (x : Integral) → IsPivot order row x → IsTop (compare order) (coefficient row) x
  IsTop-from_pivot row x pivot = record { one = pivot.one; greatest = pivot.is_greatest.greatest }

  pub pivot_from_top : (row : Row) (x : Integral) → IsTop (compare order) (coefficient row) x → IsPivot order row x
  pivot_from_top row x top =
      record { is_greatest = record { shown = λ e. absurd (omega (arith, top.one)); greatest = top.greatest }; one = top.one }

  -- an echelon form, as functions
  pub IsStair-from_echelon : (table : List Row) → IsEchelon p order table → IsStair (compare order) p (functions table)
  IsStair-from_echelon table e =
      let in_rows : (k : ℕ) → k < length (functions table) → k < length table = λ k h. omega (arith, length-map table coefficient) in
      let row : ℕ → Row = λ k. get_or table k no_row in
      let is : (k : ℕ) → k < length (functions table) → at (functions table) k ≡ coefficient (row k) = λ k h. at-functions table k no_row (in_rows k h) in
      let top_row : (k : ℕ) (h : k < length (functions table)) (x : Integral) → IsTop (compare order) (at (functions table) k) x → IsPivot order (row k) x =
      λ k h x top. pivot_from_top (row k) x (subst (λ f. IsTop (compare order) f x) (is k h) top) in
      let row_top : (k : ℕ) (h : k < length (functions table)) (x : Integral) → IsPivot order (row k) x → IsTop (compare order) (at (functions table) k) x =
      λ k h x pivot. subst (λ f. IsTop (compare order) f x) (sym (is k h)) (IsTop-from_pivot (row k) x pivot) in
      record {
        below = λ k h x. subst (λ f. f x < p) (sym (is k h)) ((e.rows k no_row (in_rows k h)).below x);
        pivots = λ k h. let found = e.pivots k no_row (in_rows k h) in (found.0, row_top k h found.0 found.1);
        ascend = λ i j l h x y s t.
            let first : i < length (functions table) = omega arith in
            e.ascend i j no_row l (in_rows j h) x y (top_row i first x s).is_greatest (top_row j h y t).is_greatest;
        apart = λ i j in_i in_j x top shows.
            row_top j in_j x (e.apart (row i) (row j) x (Contains-get_or table i no_row (in_rows i in_i)) (Contains-get_or table j no_row (in_rows j in_j)) (top_row i in_i x top) (λ none. shows (ap (λ f. f x) (is j in_j) ∙ none)));
      }

  HasPivot : Row → Type 0
  HasPivot row = (x : Integral) × IsPivot order row x

  asymmetric : (row other : Row) → HasPivot row → HasPivot other → Ascend order row other → Ascend order other row → ⊥
  unfolding HasPivot
  asymmetric row other (x, s) (y, t) up down =
      let up : compare order x y ≡ Less = up x y s.is_greatest t.is_greatest in
      let down : compare order y x ≡ Less = down y x t.is_greatest s.is_greatest in
      let both = (compare-total order).trans x y x up down in
      let tied = tied_itself (compare-total order) x in
      cc

  -- each row of the one table is one of the other
  member : (table other : List Row) → IsEchelon p order table → IsEchelon p order other → SameSpan p table other → (row : Row) → Contains other row → Contains table row
  member table other e f span row there =
      let j = there.0 in
      let in_j : j < length (functions other) = omega (arith, length-map other coefficient, there.1) in
      let found = matched (compare order) (compare-total order) (compare-IsAntisymmetric order) p (functions table) (functions other) (IsStair-from_echelon table e) (IsStair-from_echelon other f)
      (AllSpanned-from_rows p other table span.back) (AllSpanned-from_rows p table other span.forth) j in_j in
      let k = found.0 in
      let in_k : k < length table = omega (arith, length-map table coefficient, found.1) in
      let same : (x : Integral) → coefficient (get_or table k row) x ≡ coefficient row x =
      λ x. sym (ap (λ g. g x) (at-functions table k row in_k)) ∙ found.2 x ∙ ap (λ g. g x) (at-functions other j row there.1) ∙ ap (λ r. coefficient r x) there.2 in
      let other_row : IsRow p order row = subst (IsRow p order) there.2 (f.rows j row there.1) in
      (k, in_k, same_row p order (get_or table k row) row (e.rows k row in_k) other_row same)

  pub one_echelon : (table other : List Row) → IsEchelon p order table → IsEchelon p order other → SameSpan p table other → table ≡ other
  unfolding HasPivot
  one_echelon table other e f span =
      same_from_members HasPivot (Ascend order) asymmetric table other e.pivots f.pivots e.ascend f.ascend
      (member other table f e (record { forth = span.back; back = span.forth })) (member table other e f span)

  pub one_reduced_list : (equations others table other : List Row) → SameSpan p equations others → IsReduced p order equations table → IsReduced p order others other → table ≡ other
  one_reduced_list equations others table other span r s =
      let forth = All_in_span-trans p table others other (All_in_span-trans p table equations others r.spanned span.forth) s.spans in
      let back = All_in_span-trans p other equations table (All_in_span-trans p other others equations s.spanned span.back) r.spans in
      one_echelon table other r.echelon s.echelon (record { forth = forth; back = back })

  pub one_list_of_equations : (equations table other : List Row) → IsReduced p order equations table → IsReduced p order equations other → table ≡ other
  one_list_of_equations equations table other r s =
      let forth = All_in_span-trans p table equations other r.spanned s.spans in
      let back = All_in_span-trans p other equations table s.spanned r.spans in
      one_echelon table other r.echelon s.echelon (record { forth = forth; back = back })
