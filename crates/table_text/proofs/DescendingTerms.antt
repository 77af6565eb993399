-- The terms of a row from the greatest to the least are the terms that a row keeps.
use Rattle.std.proofs.Common.{◌≡◌, ℕ, suc, ◌<◌, true, ◌&&◌, T, List, [], ◌∷◌, ◌++◌, length, map, refl, sym, ap, subst, ◌∙◌, cond, arith, get_or, Some}
use Rattle.std.specs.Prelude.{AllPairs}
use Rattle.std.specs.declared.cmp.Ordering.{Ordering}
use Rattle.std.specs.declared.cmp.Ordering.TheVariants.{Less}
use Rattle.std.specs.Ordering.{eq_by_cmp, is_eq, is_lt, flip_args, ordering_reverse}
use Rattle.std.specs.Cmp.{IsTotalOrder, both_ways, Equal-is}
use Rattle.std.proofs.lemmas.Cmp.{back_total, tied_itself, tied_back}
use Rattle.std.specs.FinMap as finite
use Rattle.std.specs.FinMap.{IsAntisymmetric, find, is_sorted}
use Rattle.std.specs.FinMap.Entries.{below_all}
use Rattle.integral_index.specs.declared.Order.{Order}
use Rattle.integral_index.specs.Integral.{Integral}
use Rattle.integral_index.specs.Order.{by_fields, compare}
use Rattle.integral_index.proofs.Orders.{by_fields-total, by_fields-IsAntisymmetric, compare-total, compare-IsAntisymmetric}
use Rattle.sparse_row.specs.declared.Term.{Term}
use Rattle.sparse_row.specs.Row.{Row}
use Rattle.sparse_row.specs.Terms.{ArePushed, IsTermList, IsAbove, entry_of, row_of}
use Rattle.table_text.specs.Pieces.{descending_terms}
use Rattle.table_text.specs.TableText.{shown_integrals}

-- what ties under one comparison is the same, and so it ties under the other
ties_too : {K : Type 0} (R S : K → K → Ordering) → IsAntisymmetric R → IsTotalOrder S → (x y : K) → is_eq (R x y) ≡ true → is_eq (S x y) ≡ true
ties_too R S same total x y e = ap is_eq (ap (S x) (sym (same x y ((Equal-is (R x y)).0 e))) ∙ tied_itself total x)

module _ {K X : Type 0} (R S : K → K → Ordering) (total_r : IsTotalOrder R) (same_r : IsAntisymmetric R) (total_s : IsTotalOrder S) (same_s : IsAntisymmetric S) where
  -- a search finds the same under both
  pub find-other : (q : K) (es : List (K × X)) → find R q es ≡ find S q es
  find-other q [] = refl
  find-other q (e ∷ es) =
      let tie : eq_by_cmp R q e.0 ≡ eq_by_cmp S q e.0 = both_ways _ _ (ties_too R S same_r total_s q e.0) (ties_too S R same_s total_r q e.0) in
      λ i. cond (tie i) (Some e.1) (find-other q es i)

  -- entries that rise in the one comparison, made a map under the other and back
  entries-back : (es : List (K × X)) → T (is_sorted R es) → finite.entries (finite.from_entries {R = R} (finite.entries (finite.from_entries {R = S} es))) ≡ es
  entries-back es sorted =
      let inner : finite.FinMap S X = finite.from_entries {R = S} es in
      let looked : (q : K) → finite.get (finite.from_entries {R = R} (finite.entries inner)) q ≡ finite.get (finite.from_sorted {R = R} es) q =
      λ q. finite.get-from_entries total_r (finite.entries inner) q ∙ find-other q (finite.entries inner) ∙ sym (finite.get-entries inner q)
      ∙ finite.get-from_entries total_s es q ∙ sym (find-other q es) ∙ sym (finite.get-from_sorted R es q sorted) in
      ap finite.entries (finite.same_map total_r same_r _ _ looked) ∙ finite.entries-from_sorted R es sorted

-- the entries of terms that descend
module _ (order : Order) where
  below-entries : (term : Term) (terms : List Term) → ((j : ℕ) (d : Term) → j < length terms → IsAbove order term (get_or terms j d)) → below_all (flip_args (compare order)) term.integral (map entry_of terms) ≡ true
  below-entries term [] above = refl
  below-entries term (other ∷ rest) above =
      let first : compare order other.integral term.integral ≡ Less = (compare-total order).antisymm other.integral term.integral ∙ ap ordering_reverse (above 0 other (omega arith)) in
      λ i. is_lt (first i) && below-entries term rest (λ j d h. above (suc j) d (omega arith)) i

  sorted-entries : (terms : List Term) → AllPairs (IsAbove order) terms → is_sorted (flip_args (compare order)) (map entry_of terms) ≡ true
  sorted-entries [] descend = refl
  sorted-entries (term ∷ rest) descend =
      λ i. below-entries term rest (λ j d h. descend 0 (suc j) d (omega arith) (omega arith)) i
      && sorted-entries rest (λ j k d h within. descend (suc j) (suc k) d (omega arith) (omega arith)) i

  pub flipped : IsAntisymmetric (flip_args (compare order))
  flipped x y e = compare-IsAntisymmetric order x y (tied_back (back_total (compare-total order)) x y e)

  pub descending_terms-row_of : (terms : List Term) → IsTermList order terms → descending_terms (row_of order terms) ≡ map entry_of terms
  descending_terms-row_of terms list =
      entries-back (flip_args (compare order)) by_fields (back_total (compare-total order)) flipped by_fields-total by_fields-IsAntisymmetric (map entry_of terms)
      (subst T (sym (sorted-entries terms list.descend)) tt)

-- the terms that a row hands out
pub descending_terms-is : (order : Order) (terms : List Term) (row : Row) → IsTermList order terms → row_of order terms ≡ row → descending_terms row ≡ map entry_of terms
descending_terms-is order terms row list is = ap descending_terms (sym is) ∙ descending_terms-row_of order terms list

entry_integrals : (terms : List Term) → map (λ entry. entry.0) (map entry_of terms) ≡ map (λ term. term.integral) terms
entry_integrals [] = refl
entry_integrals (term ∷ rest) = λ i. term.integral ∷ entry_integrals rest i

-- the integrals that a row shows are those of its terms
pub shown_integrals-is : (order : Order) (terms : List Term) (row : Row) → IsTermList order terms → row_of order terms ≡ row → shown_integrals row ≡ map (λ term. term.integral) terms
shown_integrals-is order terms row list is = ap (map (λ entry. entry.0)) (descending_terms-is order terms row list is) ∙ entry_integrals terms

-- what a row appends
pub pushed_shown : (row : Row) (others pushed : List Integral) → ArePushed row others pushed → pushed ≡ others ++ shown_integrals row
pushed_shown row others pushed are = are.behind ∙ ap (λ integrals. others ++ integrals) (sym (shown_integrals-is row.order are.terms row are.list are.value))
