-- Where events of two units may both happen, each may still happen after the other.
use Rattle.std.proofs.Common.{◌≡◌, ◌≢◌, ℕ, List, ◌++◌, All, Contains, refl, sym, ap, subst, ◌∙◌, inl, inr}
use Rattle.std.proofs.lemmas.List.Elements.{All-append, All-contains, Contains-append_left, Contains-append_right}
use Rattle.std.specs.FinMap as map
use Rattle.integral_index.specs.Order.{unit_of}
use Rattle.integral_index.specs.Integral.{Integral}
use Rattle.integral_index.specs.declared.Unit.{Unit}
use Rattle.integral_index.specs.declared.Order.{Order}
use Rattle.sparse_row.specs.Row.{Row, coefficient, IsRow, IsPivot}
use Rattle.sparse_row.specs.Span.{InSpan, SameSpan}
use Rattle.sparse_row.proofs.RowSpans.{All_in_span-trans}
use Rattle.sector_forward.specs.Elimination.{IsElimination}
use Rattle.sector_forward.proofs.Keys.{decided}
use Rattle.back_substitute.specs.Substitution.{ShowsNoPivotOf}
use Rattle.sector_machine.specs.State.{State, rows_at, rows_of}
use Rattle.sector_machine.specs.Machine.{back_rows, MayBack, HaveThePivots, IsForward, IsBack, Event, unit_of_event, Leads}
use Rattle.sector_machine.specs.Invariant.{HoldsOfRows}
use Rattle.sector_machine.proofs.Lists.{All-from_members}
use Rattle.sector_machine.proofs.Units.{unit_cases, rows_inserted, rows_others, Has-from_member, row_of_unit, unit_of_row}
use Rattle.sector_machine.proofs.Rows.{row_of_rules, unit_of_pivot, member_in_span, forward_row, back_row}
use Rattle.sector_machine.proofs.ForwardEvents.{elimination_accepted}
use Rattle.sector_machine.proofs.BackEvents.{rows_closed, back_is_accepted}
use Rattle.sector_machine.proofs.Events.{event_keeps_rows}
use Rattle.sector_machine.proofs.Tasks.{event_keeps_task}
use Rattle.sector_machine.proofs.States.{forward_state}

-- two lists that have the same span with some rows have it with more of them
same_span_with_more : (p : ℕ) (order : Order) (first second old new : List Row) → ((row : Row) → Contains first row → IsRow p order row) → ((row : Row) → Contains second row → IsRow p order row) → ((row : Row) → Contains new row → IsRow p order row) → ((row : Row) → Contains old row → Contains new row) → SameSpan p (first ++ old) (second ++ old) → SameSpan p (first ++ new) (second ++ new)
same_span_with_more p order first second old new is_first is_second is_new more span =
    record { forth = one_way first second is_second span.forth; back = one_way second first is_first span.back }
  where
    in_longer : (rows : List Row) → ((row : Row) → Contains rows row → IsRow p order row) → All (InSpan p (rows ++ new)) (rows ++ old)
    in_longer rows is =
        All-append (InSpan p (rows ++ new)) rows old
        (All-from_members (InSpan p (rows ++ new)) rows (λ row member. member_in_span p order (rows ++ new) row (is row member) (Contains-append_left rows new row member)))
        (All-from_members (InSpan p (rows ++ new)) old (λ row member. member_in_span p order (rows ++ new) row (is_new row (more row member)) (Contains-append_right rows new row (more row member))))

    one_way : (given rows : List Row) → ((row : Row) → Contains rows row → IsRow p order row) → All (InSpan p (rows ++ old)) (given ++ old) → All (InSpan p (rows ++ new)) (given ++ new)
    one_way given rows is each =
        All-append (InSpan p (rows ++ new)) given new
        (All_in_span-trans p given (rows ++ old) (rows ++ new)
        (All-from_members (InSpan p (rows ++ old)) given (λ row member. All-contains (InSpan p (rows ++ old)) (given ++ old) row each (Contains-append_left given old row member)))
        (in_longer rows is))
        (All-from_members (InSpan p (rows ++ new)) new (λ row member. member_in_span p order (rows ++ new) row (is_new row member) (Contains-append_right rows new row member)))

module _ (p : ℕ) (order : Order) (equations : List Row) (before after : State) (holds : HoldsOfRows p order equations before) where
  -- ---- a forward event after another event

  forward_follows : (event : Event) (unit : Unit) (rows rest : List Row) (next : State) → Leads p order event before after → IsForward p order unit rows rest before next → unit ≢ unit_of_event event → (last : State) × IsForward p order unit rows rest after last
  forward_follows event unit rows rest next leads other differ =
      let task = (event_keeps_task p order equations event unit before after holds leads differ).forward other.may in
      let elimination : IsElimination p order unit (rows_at after.waiting unit) rows rest = subst (λ rs. IsElimination p order unit rs rows rest) (sym task.1) other.elimination in
      let accepted = elimination_accepted p order unit rows rest after task.0 elimination in
      let last = forward_state p order equations unit rows rest after (event_keeps_rows p order equations event before after holds leads) accepted in
      (last.0, record { may = task.0; elimination = elimination; change = last.1 })

  -- ---- a back event after another event

  module _ (unit : Unit) (rows : List Row) (next : State) (other : IsBack p order unit rows before next) where
    -- with back rows that are those of before, or more of which the rows show no pivot
    follows : MayBack unit after → rows_at after.forward unit ≡ rows_at before.forward unit → ((row : Row) → Contains (back_rows before) row → Contains (back_rows after) row) → HoldsOfRows p order equations after → ((row rule : Row) (x : Integral) → Contains rows row → Contains (back_rows after) rule → IsPivot order rule x → coefficient row x ≡ 0) → (last : State) × IsBack p order unit rows after last
    follows may same more holds_after clear = (
      record { units = after.units; waiting = after.waiting; forward = after.forward; back = map.insert after.back unit rows },
      record {
        may = may;
        rules = other.rules;
        pivots = subst (λ rs. HaveThePivots order rs rows) (sym same) other.pivots;
        clear = All-from_members (ShowsNoPivotOf order (back_rows after)) rows (λ row member rule x in_back pivot. clear row rule x member in_back pivot);
        span = subst (λ rs. SameSpan p (rs ++ back_rows after) (rows ++ back_rows after)) (sym same)
            (same_span_with_more p order (rows_at before.forward unit) rows (back_rows before) (back_rows after)
            (forward_row p order equations before holds unit) (λ row member. row_of_rules p order unit rows row other.rules member)
            (back_row p order equations after holds_after) more other.span);
        change = record { units = refl; waiting = refl; forward = refl; back = refl };
      },
    )

    old_clear : (row rule : Row) (x : Integral) → Contains rows row → Contains (back_rows before) rule → IsPivot order rule x → coefficient row x ≡ 0
    old_clear row rule x member in_back pivot = All-contains (ShowsNoPivotOf order (back_rows before)) rows row other.clear member rule x in_back pivot

    after_forward : (taken : Unit) (own rest : List Row) → IsForward p order taken own rest before after → unit ≢ taken → (last : State) × IsBack p order unit rows after last
    after_forward taken own rest leads differ =
        let task = (event_keeps_task p order equations (Event.Forward taken own rest) unit before after holds leads differ).back other.may in
        let c = leads.change in
        let same_back : back_rows after ≡ back_rows before = λ i. rows_of (c.units i) (c.back i) in
        follows task.0 task.1 (λ row member. subst (λ rs. Contains rs row) (sym same_back) member)
        (event_keeps_rows p order equations (Event.Forward taken own rest) before after holds leads)
        (λ row rule x member in_back pivot. old_clear row rule x member (subst (λ rs. Contains rs rule) same_back in_back) pivot)

    module _ (done : Unit) (own : List Row) (leads : IsBack p order done own before after) (differ : unit ≢ done) where
      abbrev rows_after : List Row
      rows_after = rows_of before.units (map.insert before.back done own)

      same_back : back_rows after ≡ rows_after
      same_back = let c = leads.change in λ i. rows_of (c.units i) (c.back i)

      back_stays : (row : Row) → Contains (back_rows before) row → Contains (back_rows after) row
      back_stays row member =
          let found = unit_of_row before.units before.back row member in
          let apart : found.0 ≢ done = λ e. Has-from_member before.back found.0 row found.2 (ap (map.get before.back) e ∙ leads.may.new) in
          subst (λ rs. Contains rs row) (sym same_back)
          (row_of_unit before.units (map.insert before.back done own) found.0 row found.1 (subst (λ rs. Contains rs row) (sym (rows_others before.back done own found.0 apart)) found.2))

      -- the rows show nothing of the unit that got back rows
      new_clear : (row rule : Row) (x : Integral) → Contains rows row → Contains own rule → IsPivot order rule x → coefficient row x ≡ 0
      new_clear row rule x member new pivot =
          let of_done : unit_of x ≡ done = unit_of_pivot p order done own rule x leads.rules new pivot.is_greatest in
          elim (decided (coefficient row x)) [
            | inl none ↦ none
            | inr shows ↦
                absurd (rows_closed p order equations unit rows before holds (back_is_accepted p order unit rows before next other) row x member shows (λ e. differ (sym e ∙ of_done)) (ap (map.get before.back) of_done ∙ leads.may.new))
          ]

      all_clear : (row rule : Row) (x : Integral) → Contains rows row → Contains (back_rows after) rule → IsPivot order rule x → coefficient row x ≡ 0
      all_clear row rule x member in_back pivot =
          let found = unit_of_row before.units (map.insert before.back done own) rule (subst (λ rs. Contains rs rule) same_back in_back) in
          elim (unit_cases found.0 done) [
            | inr apart ↦ old_clear row rule x member (row_of_unit before.units before.back found.0 rule found.1 (subst (λ rs. Contains rs rule) (rows_others before.back done own found.0 apart) found.2)) pivot
            | inl same ↦ new_clear row rule x member (subst (λ rs. Contains rs rule) (ap (rows_at (map.insert before.back done own)) same ∙ rows_inserted before.back done own) found.2) pivot
          ]

      after_back : (last : State) × IsBack p order unit rows after last
      after_back =
          let task = (event_keeps_task p order equations (Event.Back done own) unit before after holds leads differ).back other.may in
          follows task.0 task.1 back_stays (event_keeps_rows p order equations (Event.Back done own) before after holds leads) all_clear

pub events_follow : (p : ℕ) (order : Order) (equations : List Row) (event other : Event) (before after next : State) → HoldsOfRows p order equations before → Leads p order event before after → Leads p order other before next → unit_of_event other ≢ unit_of_event event → (last : State) × Leads p order other after last
events_follow p order equations event (Event.Forward unit rows rest) before after next holds leads also differ =
    forward_follows p order equations before after holds event unit rows rest next leads also differ
events_follow p order equations (Event.Forward taken own rest) (Event.Back unit rows) before after next holds leads also differ =
    after_forward p order equations before after holds unit rows next also taken own rest leads differ
events_follow p order equations (Event.Back done own) (Event.Back unit rows) before after next holds leads also differ =
    after_back p order equations before after holds unit rows next also done own leads differ
