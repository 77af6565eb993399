-- A back event keeps the invariant.
use Rattle.std.proofs.Common.{◌≡◌, ◌≢◌, ℕ, List, ◌++◌, All, Contains, sym, ap, subst, ◌∙◌, ◌⊎◌, inl, inr}
use Rattle.std.proofs.lemmas.List.Elements.{All-append, All-contains, Contains-append_left, Contains-append_cases}
use Rattle.std.specs.FinMap as map
use Rattle.std.specs.declared.cmp.Ordering.TheVariants.{Less}
use Rattle.integral_index.specs.Order.{unit_of, unit_compare}
use Rattle.integral_index.specs.Integral.{Integral}
use Rattle.integral_index.specs.declared.Unit.{Unit}
use Rattle.integral_index.specs.declared.Order.{Order}
use Rattle.sparse_row.specs.Row.{Row, coefficient, Shows, IsPivot}
use Rattle.sparse_row.specs.Span.{InSpan, SameSpan}
use Rattle.sparse_row.proofs.RowSpans.{InSpan-trans, All_in_span-trans}
use Rattle.sector_forward.specs.Elimination.{AreApart}
use Rattle.sector_forward.proofs.Keys.{decided}
use Rattle.sector_forward.proofs.Parted.{shown_by_span}
use Rattle.back_substitute.specs.Substitution.{AreRules, ShowsNoPivotOf}
use Rattle.sector_machine.specs.State.{State, RowsByUnit, Has, rows_at, rows_of}
use Rattle.sector_machine.specs.Machine.{back_rows, HaveThePivots, IsAfterBack, IsBack}
use Rattle.sector_machine.specs.Accepted.{IsAcceptedBack}
use Rattle.sector_machine.specs.Invariant.{HoldsOfUnits, HoldsOfWaiting, HoldsOfBack, HoldsOfRows, HoldsOfSpans, Holds}
use Rattle.sector_machine.proofs.Lists.{All-from_members}
use Rattle.sector_machine.proofs.Units.{unit_cases, less_differs, rows_inserted, rows_others, Has-inserted, Has-others, Has-more, Has-from_member, row_of_unit, unit_of_row}
use Rattle.sector_machine.proofs.Rows.{row_of_rules, unit_of_pivot, member_in_span, forward_row, forward_listed, back_listed, back_row}
use Rattle.sector_machine.proofs.Apart.{AreApart-joined, only_itself}

module _ (p : ℕ) (order : Order) (equations : List Row) (unit : Unit) (rows : List Row) (before : State) (holds : HoldsOfRows p order equations before) (accepted : IsAcceptedBack p order before unit rows) where
  abbrev new_back : RowsByUnit
  new_back = map.insert before.back unit rows

  abbrev state_after : State
  state_after = record { units = before.units; waiting = before.waiting; forward = before.forward; back = map.insert before.back unit rows }

  abbrev new_rows : List Row
  new_rows = rows_of before.units (map.insert before.back unit rows)

  -- a back row is one of the rows, or was one before
  back_cases : (other : Unit) (row : Row) → Contains (rows_at new_back other) row → ((other ≡ unit) × Contains rows row) ⊎ ((other ≢ unit) × Contains (rows_at before.back other) row)
  back_cases other row member =
      elim (unit_cases other unit) [
        | inl same ↦ inl (same, subst (λ rs. Contains rs row) (ap (rows_at new_back) same ∙ rows_inserted before.back unit rows) member)
        | inr differ ↦ inr (differ, subst (λ rs. Contains rs row) (rows_others before.back unit rows other differ) member)
      ]

  listed : Contains before.units unit
  listed = holds.units.eliminated unit accepted.may.eliminated

  -- ---- what the rows show

  -- the rows show only the unit and units that have back rows
  pub rows_closed : (row : Row) (x : Integral) → Contains rows row → Shows row x → unit_of x ≢ unit → Has before.back (unit_of x)
  rows_closed row x member shows differ =
      let shown = accepted.nothing_new row x member shows in
      elim (Contains-append_cases (rows_at before.forward unit) (back_rows before) shown.0 shown.1) [
        | inl own ↦ accepted.may.lesser shown.0 x own shown.2 differ
        | inr below ↦ let found = unit_of_row before.units before.back shown.0 below in holds.back.closed shown.0 x (found.0, found.2) shown.2
      ]

  closed : (other : Unit) (row : Row) (x : Integral) → Contains (rows_at new_back other) row → Shows row x → Has new_back (unit_of x)
  closed other row x member shows =
      elim (unit_cases (unit_of x) unit) [
        | inl same ↦ subst (Has new_back) (sym same) (Has-inserted before.back unit rows)
        | inr differ ↦
            Has-more before.back unit rows (unit_of x)
            (elim (back_cases other row member) [
              | inl new ↦ rows_closed row x new.1 shows differ
              | inr old ↦ holds.back.closed row x (other, old.1) shows
            ])
      ]

  -- ---- the rows and the other back rows are apart

  rules_of : (other : Unit) → AreRules p order other (rows_at new_back other)
  rules_of other =
      elim (unit_cases other unit) [
        | inl same ↦
            let here : AreRules p order unit (rows_at new_back unit) = subst (AreRules p order unit) (sym (rows_inserted before.back unit rows)) accepted.rules in
            subst (λ u. AreRules p order u (rows_at new_back u)) (sym same) here
        | inr differ ↦ subst (AreRules p order other) (sym (rows_others before.back unit rows other differ)) (holds.back.rules other)
      ]

  -- a pivot of one unit isn't shown by a back row of another
  not_shown : (one other : Unit) (row second : Row) (x : Integral) → one ≢ other → Contains (rows_at new_back one) row → Contains (rows_at new_back other) second → IsPivot order row x → coefficient second x ≡ 0
  not_shown one other row second x differ in_one in_other pivot =
      let of_one : unit_of x ≡ one = unit_of_pivot p order one (rows_at new_back one) row x (rules_of one) in_one pivot.is_greatest in
      elim (decided (coefficient second x)) [
        | inl none ↦ none
        | inr shows ↦
            elim (back_cases one row in_one) [
              | inl new ↦
                  elim (back_cases other second in_other) [
                    | inl also ↦ absurd (differ (new.0 ∙ sym also.0))
                    | inr old ↦ absurd (holds.back.closed second x (other, old.1) shows (ap (map.get before.back) (of_one ∙ new.0) ∙ accepted.may.new))
                  ]
              | inr old ↦
                  let listed_row = back_listed p order equations before holds one row old.1 in
                  elim (back_cases other second in_other) [
                    | inl new ↦ All-contains (ShowsNoPivotOf order (back_rows before)) rows second accepted.clear new.1 row x listed_row pivot
                    | inr also ↦
                        let listed_second = back_listed p order equations before holds other second also.1 in
                        let same : second ≡ row = only_itself order (back_rows before) row second x holds.back.apart listed_row listed_second pivot shows in
                        let of_other : unit_of x ≡ other = unit_of_pivot p order other (rows_at new_back other) second x (rules_of other) in_other (subst (λ r. IsPivot order r x) (sym same) pivot).is_greatest in
                        absurd (differ (sym of_one ∙ of_other))
                  ]
            ]
      ]

  all_apart : AreApart order new_rows
  all_apart =
      AreApart-joined order (rows_at new_back) (λ one other. unit_compare one other ≡ Less) before.units (λ other. (rules_of other).apart) holds.units.units.ascend
      (λ one other row second less in_one in_other.
      let differ = less_differs one other less in
      record {
        first = λ x pivot. not_shown one other row second x differ in_one in_other pivot;
        second = λ x pivot. not_shown other one second row x (λ e. differ (sym e)) in_other in_one pivot;
      })

  back_holds : HoldsOfBack p order state_after
  back_holds =
      record {
        rules = rules_of;
        eliminated = λ other has.
            elim (unit_cases other unit) [
              | inl same ↦ subst (Has before.forward) (sym same) accepted.may.eliminated
              | inr differ ↦ holds.back.eliminated other (Has-others before.back unit rows other differ has)
            ];
        pivots = λ other has.
            elim (unit_cases other unit) [
              | inl same ↦
                  let here : HaveThePivots order (rows_at before.forward unit) (rows_at new_back unit) = subst (HaveThePivots order (rows_at before.forward unit)) (sym (rows_inserted before.back unit rows)) accepted.pivots in
                  subst (λ u. HaveThePivots order (rows_at before.forward u) (rows_at new_back u)) (sym same) here
              | inr differ ↦ subst (HaveThePivots order (rows_at before.forward other)) (sym (rows_others before.back unit rows other differ)) (holds.back.pivots other (Has-others before.back unit rows other differ has))
            ];
        closed = λ row x (other, member) shows. closed other row x member shows;
        apart = all_apart;
      }

  units_hold : HoldsOfUnits equations state_after
  units_hold = record { units = holds.units.units; eliminated = holds.units.eliminated; waiting = holds.units.waiting; forward = holds.units.forward }

  waiting_holds : HoldsOfWaiting p order state_after
  waiting_holds = record { grouped = holds.waiting.grouped; none_empty = holds.waiting.none_empty; not_eliminated = holds.waiting.not_eliminated }

  pub rows_hold_after : HoldsOfRows p order equations state_after
  rows_hold_after = record { are_rows = holds.are_rows; units = units_hold; waiting = waiting_holds; forward = holds.forward; back = back_holds }

  module _ (spans : HoldsOfSpans p equations before) (span : SameSpan p (rows_at before.forward unit ++ back_rows before) (rows ++ back_rows before)) where
    abbrev all_forward : List Row
    all_forward = rows_of before.units before.forward

    back_stays : (row : Row) → Contains (back_rows before) row → Contains new_rows row
    back_stays row member =
        let found = unit_of_row before.units before.back row member in
        let differ : found.0 ≢ unit = λ same. Has-from_member before.back found.0 row found.2 (ap (map.get before.back) same ∙ accepted.may.new) in
        row_of_unit before.units new_back found.0 row found.1 (subst (λ rs. Contains rs row) (sym (rows_others before.back unit rows found.0 differ)) found.2)

    row_stays : (row : Row) → Contains rows row → Contains new_rows row
    row_stays row member = row_of_unit before.units new_back unit row listed (subst (λ rs. Contains rs row) (sym (rows_inserted before.back unit rows)) member)

    old_in_new : All (InSpan p new_rows) (back_rows before)
    old_in_new = All-from_members (InSpan p new_rows) (back_rows before) (λ row member. member_in_span p order new_rows row (back_row p order equations before holds row member) (back_stays row member))

    both_in_new : All (InSpan p new_rows) (rows ++ back_rows before)
    both_in_new =
        All-append (InSpan p new_rows) rows (back_rows before)
        (All-from_members (InSpan p new_rows) rows (λ row member. member_in_span p order new_rows row (row_of_rules p order unit rows row accepted.rules member) (row_stays row member)))
        old_in_new

    both_in_forward : All (InSpan p all_forward) (rows_at before.forward unit ++ back_rows before)
    both_in_forward =
        All-append (InSpan p all_forward) (rows_at before.forward unit) (back_rows before)
        (All-from_members (InSpan p all_forward) (rows_at before.forward unit)
        (λ row member. member_in_span p order all_forward row (forward_row p order equations before holds unit row member) (forward_listed p order equations before holds unit row member)))
        spans.spanned

    new_spanned : (row : Row) → Contains new_rows row → InSpan p all_forward row
    new_spanned row member =
        let found = unit_of_row before.units new_back row member in
        elim (back_cases found.0 row found.2) [
          | inl new ↦
              InSpan-trans p (rows_at before.forward unit ++ back_rows before) all_forward row both_in_forward
              (All-contains (InSpan p (rows_at before.forward unit ++ back_rows before)) (rows ++ back_rows before) row span.back (Contains-append_left rows (back_rows before) row new.1))
          | inr old ↦ All-contains (InSpan p all_forward) (back_rows before) row spans.spanned (back_listed p order equations before holds found.0 row old.1)
        ]

    unit_spanned : All (InSpan p new_rows) (rows_at before.forward unit)
    unit_spanned =
        All-from_members (InSpan p new_rows) (rows_at before.forward unit)
        (λ row member.
        InSpan-trans p (rows ++ back_rows before) new_rows row both_in_new
        (All-contains (InSpan p (rows ++ back_rows before)) (rows_at before.forward unit ++ back_rows before) row span.forth (Contains-append_left (rows_at before.forward unit) (back_rows before) row member)))

    pub spans_hold : HoldsOfSpans p equations state_after
    spans_hold =
        record {
          whole = spans.whole;
          spanned = All-from_members (InSpan p all_forward) new_rows new_spanned;
          spans = λ other has.
              elim (unit_cases other unit) [
                | inl same ↦ subst (λ u. All (InSpan p new_rows) (rows_at before.forward u)) (sym same) unit_spanned
                | inr differ ↦ All_in_span-trans p (rows_at before.forward other) (back_rows before) new_rows (spans.spans other (Has-others before.back unit rows other differ has)) old_in_new
              ];
        }

pub after_is : (unit : Unit) (rows : List Row) (before after : State) → IsAfterBack unit rows before after → record { units = before.units; waiting = before.waiting; forward = before.forward; back = map.insert before.back unit rows } ≡ after
after_is unit rows before after c = λ i. record { units = sym c.units i; waiting = sym c.waiting i; forward = sym c.forward i; back = sym c.back i }

pub accepted_back_keeps : (p : ℕ) (order : Order) (equations : List Row) (unit : Unit) (rows : List Row) (before after : State) → HoldsOfRows p order equations before → IsAcceptedBack p order before unit rows → IsAfterBack unit rows before after → HoldsOfRows p order equations after
accepted_back_keeps p order equations unit rows before after holds accepted c =
    subst (HoldsOfRows p order equations) (after_is unit rows before after c) (rows_hold_after p order equations unit rows before holds accepted)

pub back_is_accepted : (p : ℕ) (order : Order) (unit : Unit) (rows : List Row) (before after : State) → IsBack p order unit rows before after → IsAcceptedBack p order before unit rows
back_is_accepted p order unit rows before after event =
    record {
      may = event.may;
      rules = event.rules;
      pivots = event.pivots;
      clear = event.clear;
      nothing_new = λ row x member shows.
          shown_by_span p (rows_at before.forward unit ++ back_rows before) row x
          (All-contains (InSpan p (rows_at before.forward unit ++ back_rows before)) (rows ++ back_rows before) row event.span.back (Contains-append_left rows (back_rows before) row member)) shows;
    }

pub back_keeps : (p : ℕ) (order : Order) (equations : List Row) (unit : Unit) (rows : List Row) (before after : State) → Holds p order equations before → IsBack p order unit rows before after → Holds p order equations after
back_keeps p order equations unit rows before after holds event =
    let accepted = back_is_accepted p order unit rows before after event in
    record {
      rows = accepted_back_keeps p order equations unit rows before after holds.rows accepted event.change;
      spans = subst (HoldsOfSpans p equations) (after_is unit rows before after event.change)
          (spans_hold p order equations unit rows before holds.rows accepted holds.spans event.span);
    }
