-- Rows put in ascending order, and the table of a board.
use Rattle.std.proofs.Common.{◌≡◌, ℕ, ◌<◌, List, [], ◌∷◌, ◌++◌, length, get_or, Contains, sym, ap, subst, ◌∙◌, inl, inr, arith}
use Rattle.std.specs.List.{insert}
use Rattle.std.specs.List.Sorted.{IsPermutation}
use Rattle.std.proofs.lemmas.List.Elements.{Contains-get_or, Contains-append_left, Contains-append_right, Contains-append_cases}
use Rattle.std.proofs.lemmas.List.Sorted.{IsPermutation-insert, IsPermutation-to_front, IsPermutation-trans, IsPermutation-sym, Contains-permutation}
use Rattle.integral_index.specs.declared.Order.{Order}
use Rattle.integral_index.specs.Integral.{Integral}
use Rattle.sparse_row.specs.Row.{Row, coefficient, IsRow, IsGreatest, IsPivot}
use Rattle.sparse_row.specs.ReducedList.{IsEchelon}
use Rattle.sparse_row.proofs.RowValues.{greatest_same}
use Rattle.sector_forward.specs.Elimination.{AreApart}
use Rattle.sector_forward.specs.Steps.{HasPivot, IsPivotAt}
use Rattle.sector_forward.proofs.StepLemmas.{same_at}
use Rattle.sector_machine.specs.State.{State}
use Rattle.sector_machine.specs.Machine.{back_rows}
use Rattle.sector_machine.specs.Tasks.{IsTableOf}
use Rattle.sector_machine.specs.Invariant.{HoldsOfRows}
use Rattle.sector_machine.proofs.Lists.{All-from_members}
use Rattle.sector_machine.proofs.Rows.{back_row, back_pivot}
use Rattle.sector_machine.proofs.Apart.{only_itself}
use Rattle.reduction_core.specs.Ascending.{HaveNoPivotOf, HasMembers, IsAscending}

pub greatest_is_pivot : (order own : Order) (row : Row) (x : Integral) → own ≡ order → HasPivot order row → IsGreatest own row x → IsPivot order row x
greatest_is_pivot order own row x same pivot top =
    subst (IsPivot order row) (greatest_same order row pivot.0 x (pivot.1).is_greatest (subst (λ o. IsGreatest o row x) same top)) pivot.1

pub not_there : (order : Order) (table : List Row) (row : Row) (x : Integral) (place : ℕ) → HaveNoPivotOf order row table → IsPivot order row x → place < length table → IsPivotAt order table place x → ⊥
not_there order table row x place new pivot within at = new (get_or table place row) x (Contains-get_or table place row within) pivot (at row)

pub members_inserted : (table : List Row) (place : ℕ) (row : Row) → HasMembers (table ++ row ∷ []) (insert table place row)
members_inserted table place row =
    let moved : IsPermutation (table ++ row ∷ []) (insert table place row) =
    IsPermutation-trans (table ++ row ∷ []) (row ∷ table) (insert table place row) (IsPermutation-to_front table row) (IsPermutation-insert table place row) in
    λ other. (
      Contains-permutation (insert table place row) (table ++ row ∷ []) other (IsPermutation-sym (table ++ row ∷ []) (insert table place row) moved),
      Contains-permutation (table ++ row ∷ []) (insert table place row) other moved,
    )

pub members_more : (rows table after : List Row) (row : Row) → HasMembers rows table → HasMembers (table ++ row ∷ []) after → HasMembers (rows ++ row ∷ []) after
members_more rows table after row before more other = (
  λ member.
      elim (Contains-append_cases table (row ∷ []) other ((more other).0 member)) [
        | inl old ↦ Contains-append_left rows (row ∷ []) other ((before other).0 old)
        | inr own ↦ Contains-append_right rows (row ∷ []) other own
      ],
  λ member.
      (more other).1
      (elim (Contains-append_cases rows (row ∷ []) other member) [
        | inl old ↦ Contains-append_left table (row ∷ []) other ((before other).1 old)
        | inr own ↦ Contains-append_right table (row ∷ []) other own
      ]),
)

-- the next of rows that are apart has no pivot of those before it
pub no_pivot_before : (order : Order) (rows done table : List Row) (row : Row) → length done < length rows → row ≡ get_or rows (length done) row → AreApart order rows → ((k : ℕ) (d : Row) → k < length done → get_or done k d ≡ get_or rows k d) → HasMembers done table → HaveNoPivotOf order row table
no_pivot_before order rows done table row next read apart front members other x member pivot theirs =
    let found = (members other).0 member in
    let k = found.0 in
    let at : get_or rows k other ≡ other = sym (front k other found.1) ∙ found.2 in
    let none : coefficient (get_or rows (length done) other) x ≡ 0 =
    apart k (length done) other x (omega (arith, found.1)) next (omega (arith, found.1)) (subst (λ r. IsPivot order r x) (sym at) theirs) in
    let last : get_or rows (length done) other ≡ row = same_at rows (length done) other row next ∙ sym read in
    let zero : coefficient row x ≡ 0 = ap (λ r. coefficient r x) (sym last) ∙ none in
    absurd (omega (arith, zero, pivot.one))

-- ---- the table of a board

pub table_from_ascending : (order : Order) (state : State) (rows table : List Row) → rows ≡ back_rows state → IsAscending order rows table → IsTableOf order state table
table_from_ascending order state rows table is ascending =
    record { ascend = ascending.ascend; members = subst (λ rs. HasMembers rs table) is ascending.members }

pub table_is_echelon : (p : ℕ) (order : Order) (equations : List Row) (state : State) (table : List Row) → HoldsOfRows p order equations state → IsTableOf order state table → IsEchelon p order table
table_is_echelon p order equations state table holds is =
    let of_back : (row : Row) → Contains table row → Contains (back_rows state) row = λ row member. (is.members row).0 member in
    record {
      rows = All-from_members (IsRow p order) table (λ row member. back_row p order equations state holds row (of_back row member));
      pivots = All-from_members (HasPivot order) table (λ row member. back_pivot p order equations state holds row (of_back row member));
      ascend = is.ascend;
      apart = λ row other x in_row in_other pivot shows.
          let same : other ≡ row = only_itself order (back_rows state) row other x holds.back.apart (of_back row in_row) (of_back other in_other) pivot shows in
          subst (λ r. IsPivot order r x) (sym same) pivot;
    }
