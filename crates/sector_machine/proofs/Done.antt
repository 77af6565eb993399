-- The back rows of a done state are the reduced list of the equations.
use Rattle.std.proofs.Common.{◌≡◌, ℕ, List, ◌++◌, All, Contains, sym, subst, inl, inr}
use Rattle.std.proofs.lemmas.List.Elements.{All-contains, Contains-append_right, Contains-append_cases}
use Rattle.integral_index.specs.Order.{unit_of}
use Rattle.integral_index.specs.Integral.{Integral}
use Rattle.integral_index.specs.declared.Unit.{Unit}
use Rattle.integral_index.specs.declared.Order.{Order}
use Rattle.sparse_row.specs.Row.{Row, IsRow, IsPivot}
use Rattle.sparse_row.specs.Span.{InSpan}
use Rattle.sparse_row.specs.ReducedList.{IsEchelon, IsReduced}
use Rattle.sparse_row.proofs.RowSpans.{InSpan-trans, All_in_span-trans}
use Rattle.sector_machine.specs.State.{State, Has, rows_at, rows_of}
use Rattle.sector_machine.specs.Machine.{back_rows, IsDone}
use Rattle.sector_machine.specs.Tasks.{IsTableOf}
use Rattle.sector_machine.specs.Invariant.{Holds}
use Rattle.sector_machine.proofs.Lists.{All-from_members}
use Rattle.sector_machine.proofs.Units.{unit_of_row}
use Rattle.sector_machine.proofs.Rows.{member_in_span, waiting_taken, back_row, back_pivot}
use Rattle.sector_machine.proofs.Apart.{only_itself}

module _ (p : ℕ) (order : Order) (equations : List Row) (state : State) (holds : Holds p order equations state) (done : IsDone state) where
  has_back : (unit : Unit) → Contains state.units unit → Has state.back unit
  has_back unit listed = All-contains (Has state.back) state.units unit done listed

  -- nothing waits any more
  pub nothing_waits : (unit : Unit) (row : Row) → ¬ (Contains (rows_at state.waiting unit) row)
  nothing_waits unit row member =
      let top = (waiting_taken p order equations state holds.rows unit row member).greatest in
      let x = top.0 in
      let shows = (top.1).shown in
      let listed = holds.rows.units.waiting row x (unit, member) shows in
      holds.rows.back.eliminated (unit_of x) (has_back (unit_of x) listed) (holds.rows.waiting.not_eliminated row x (unit, member) shows)

  module _ (table : List Row) (is : IsTableOf order state table) where
    of_back : (row : Row) → Contains table row → Contains (back_rows state) row
    of_back row member = (is.members row).0 member

    table_echelon : IsEchelon p order table
    table_echelon =
        record {
          rows = All-from_members (IsRow p order) table (λ row member. back_row p order equations state holds.rows row (of_back row member));
          pivots = All-from_members (λ row. (x : Integral) × IsPivot order row x) table (λ row member. back_pivot p order equations state holds.rows row (of_back row member));
          ascend = is.ascend;
          apart = λ row other x in_row in_other pivot shows.
              let same : other ≡ row = only_itself order (back_rows state) row other x holds.rows.back.apart (of_back row in_row) (of_back other in_other) pivot shows in
              subst (λ r. IsPivot order r x) (sym same) pivot;
        }

    waiting : List Row
    waiting = rows_of state.units state.waiting

    forward : List Row
    forward = rows_of state.units state.forward

    forward_in_equations : All (InSpan p equations) forward
    unfolding forward
    forward_in_equations =
        All-from_members (InSpan p equations) forward
        (λ row member.
        All-contains (InSpan p equations) (rows_of state.units state.waiting ++ rows_of state.units state.forward) row holds.spans.whole.back
        (Contains-append_right (rows_of state.units state.waiting) (rows_of state.units state.forward) row member))

    back_in_table : All (InSpan p table) (back_rows state)
    back_in_table =
        All-from_members (InSpan p table) (back_rows state)
        (λ row member. member_in_span p order table row (back_row p order equations state holds.rows row member) ((is.members row).1 member))

    in_table : (row : Row) → Contains (rows_of state.units state.waiting ++ rows_of state.units state.forward) row → InSpan p table row
    in_table row member =
        elim (Contains-append_cases (rows_of state.units state.waiting) (rows_of state.units state.forward) row member) [
          | inl waits ↦ let found = unit_of_row state.units state.waiting row waits in absurd (nothing_waits found.0 row found.2)
          | inr eliminated ↦
              let found = unit_of_row state.units state.forward row eliminated in
              InSpan-trans p (back_rows state) table row back_in_table
              (All-contains (InSpan p (back_rows state)) (rows_at state.forward found.0) row (holds.spans.spans found.0 (has_back found.0 found.1)) found.2)
        ]

    pub table_is_reduced : IsReduced p order equations table
    unfolding forward
    table_is_reduced =
        record {
          echelon = table_echelon;
          spanned = All-from_members (InSpan p equations) table
              (λ row member.
              InSpan-trans p forward equations row forward_in_equations
              (All-contains (InSpan p forward) (back_rows state) row holds.spans.spanned (of_back row member)));
          spans = All_in_span-trans p equations (rows_of state.units state.waiting ++ rows_of state.units state.forward) table holds.spans.whole.forth
              (All-from_members (InSpan p table) (rows_of state.units state.waiting ++ rows_of state.units state.forward) in_table);
        }
