-- A back substitution with some of the reduced rows is one with all of them, where none of the others' pivots is shown.
use Rattle.std.proofs.Common.{◌≡◌, ℕ, List, ◌++◌, get_or, All, Contains, sym, ap, subst, ◌∙◌, inl, inr}
use Rattle.std.proofs.lemmas.Bool.{cases_eq}
use Rattle.std.proofs.lemmas.List.Elements.{All-append, All-contains, Contains-get_or, Contains-append_left, Contains-append_right, Contains-append_cases}
use Rattle.integral_index.specs.declared.Order.{Order}
use Rattle.integral_index.specs.declared.Unit.{Unit}
use Rattle.integral_index.specs.Integral.{Integral}
use Rattle.sparse_row.specs.Row.{Row, coefficient, Shows, IsRow, IsPivot}
use Rattle.sparse_row.specs.Span.{InSpan, SameSpan}
use Rattle.sparse_row.proofs.RowSpans.{All_in_span-trans}
use Rattle.sector_forward.specs.Elimination.{IsShownBySome}
use Rattle.sector_forward.proofs.Keys.{decided}
use Rattle.sector_forward.proofs.Parted.{shown_by_span}
use Rattle.sector_forward.proofs.StepLemmas.{same_at}
use Rattle.sector_forward.proofs.Taking.{members_spanned}
use Rattle.back_substitute.specs.Substitution.{ShowsNoPivotOf, IsSubstitution}
use Rattle.back_substitute.specs.Laws.{HasAllShown}

pub nothing_new : (p : ℕ) (order : Order) (unit : Unit) (input below rows : List Row) (row : Row) (x : Integral) → IsSubstitution p order unit input below rows → Contains rows row → Shows row x → IsShownBySome (input ++ below) x
nothing_new p order unit input below rows row x s member shows =
    shown_by_span p (input ++ below) row x (All-contains (InSpan p (input ++ below)) (rows ++ below) row s.span.back (Contains-append_left rows below row member)) shows

module _ (p : ℕ) (order : Order) (unit : Unit) (input below rows all : List Row) (s : IsSubstitution p order unit input below rows) (h : HasAllShown p order input below all) where
  -- a row below that shows the pivot of a row is that row
  same_rule : (rule other : Row) (x : Integral) → Contains all rule → Contains below other → IsPivot order rule x → Shows other x → Contains below rule
  same_rule rule other x in_all in_below pivot shows =
      let among = h.among other in_below in
      let i = in_all.0 in
      let j = among.0 in
      elim (cases_eq i j) [
        | inl same ↦
            let one : other ≡ rule = sym among.2 ∙ ap (λ n. get_or all n other) (sym same) ∙ same_at all i other rule in_all.1 ∙ in_all.2 in
            subst (Contains below) one in_below
        | inr differ ↦
            let top : IsPivot order (get_or all i other) x = subst (λ r. IsPivot order r x) (sym in_all.2 ∙ same_at all i rule other in_all.1) pivot in
            absurd (shows (ap (λ r. coefficient r x) (sym among.2) ∙ h.apart i j other x in_all.1 among.1 differ top))
      ]

  -- a pivot that the input or a row below shows is that of a row below
  pivot_below : (rule : Row) (x : Integral) → Contains all rule → IsPivot order rule x → IsShownBySome (input ++ below) x → Contains below rule
  pivot_below rule x in_all pivot shown =
      elim (Contains-append_cases input below shown.0 shown.1) [
        | inl in_input ↦ h.enough rule x in_all pivot (shown.0, in_input, shown.2)
        | inr in_below ↦ same_rule rule shown.0 x in_all in_below pivot shown.2
      ]

  pub clear_of_all : All (ShowsNoPivotOf order all) rows
  clear_of_all k d in_k rule x in_all pivot =
      let row : Row = get_or rows k d in
      elim (decided (coefficient row x)) [
        | inl none ↦ none
        | inr shows ↦
            let shown = nothing_new p order unit input below rows row x s (Contains-get_or rows k d in_k) shows in
            s.clear k d in_k rule x (pivot_below rule x in_all pivot shown) pivot
      ]

  -- the span of more rows
  longer : (first : List Row) → ((row : Row) → Contains first row → IsRow p order row) → All (InSpan p (first ++ all)) (first ++ below)
  longer first are =
      members_spanned p order (first ++ below) (first ++ all)
      (λ k d l.
      let row : Row = get_or (first ++ below) k d in
      elim (Contains-append_cases first below row (Contains-get_or (first ++ below) k d l)) as (λ _. IsRow p order row) [
        | inl m ↦ are row m
        | inr m ↦ All-contains (IsRow p order) all row h.rows (h.among row m)
      ])
      (λ row member.
      elim (Contains-append_cases first below row member) as (λ _. Contains (first ++ all) row) [
        | inl m ↦ Contains-append_left first all row m
        | inr m ↦ Contains-append_right first all row (h.among row m)
      ])

  all_in : (first : List Row) → All (InSpan p (first ++ all)) all
  all_in first = members_spanned p order all (first ++ all) h.rows (λ r m. Contains-append_right first all r m)

  front : (first second : List Row) → All (InSpan p second) (first ++ below) → All (InSpan p second) first
  front first second each k d l =
      All-contains (InSpan p second) (first ++ below) (get_or first k d) each (Contains-append_left first below (get_or first k d) (Contains-get_or first k d l))

  pub span_with_all : SameSpan p (input ++ all) (rows ++ all)
  span_with_all =
      let input_are : (row : Row) → Contains input row → IsRow p order row = λ row m. All-contains (IsRow p order) input row (λ k d l. (s.given.each k d l).is_row) m in
      let rows_are : (row : Row) → Contains rows row → IsRow p order row = λ row m. All-contains (IsRow p order) rows row (λ k d l. (s.rules.each k d l).is_row) m in
      record {
        forth = All-append (InSpan p (rows ++ all)) input all
            (front input (rows ++ all) (All_in_span-trans p (input ++ below) (rows ++ below) (rows ++ all) s.span.forth (longer rows rows_are)))
            (all_in rows);
        back = All-append (InSpan p (input ++ all)) rows all
            (front rows (input ++ all) (All_in_span-trans p (rows ++ below) (input ++ below) (input ++ all) s.span.back (longer input input_are)))
            (all_in input);
      }
