-- A forward event keeps the invariant.
use Rattle.std.proofs.Common.{◌≡◌, ◌≢◌, ℕ, List, [], ◌++◌, All, Contains, filter, sym, ap, subst, ◌∙◌, ◌⊎◌, inl, inr}
use Rattle.std.proofs.lemmas.List.Elements.{All-append, All-contains, Contains-append_left, Contains-append_right, Contains-append_cases}
use Rattle.std.specs.FinMap as map
use Rattle.integral_index.specs.Order.{unit_of}
use Rattle.integral_index.specs.Integral.{Integral}
use Rattle.integral_index.specs.declared.Unit.{Unit}
use Rattle.integral_index.specs.declared.Order.{Order}
use Rattle.sparse_row.specs.Row.{Row, Shows, IsRow}
use Rattle.sparse_row.specs.Span.{InSpan, SameSpan}
use Rattle.sparse_row.proofs.RowSpans.{InSpan-trans, All_in_span-trans, SameSpan-trans}
use Rattle.sector_forward.specs.Elimination.{IsTaken, IsOutside, IsElimination, IsShownBySome}
use Rattle.sector_forward.proofs.Eliminations.{nothing_new}
use Rattle.back_substitute.specs.Substitution.{AreRules}
use Rattle.sector_machine.specs.State.{State, RowsByUnit, Has, HasNone, rows_at, rows_of, unless_empty, has_greatest_in}
use Rattle.sector_machine.specs.Machine.{back_rows, HasGreatestIn, MayForward, HaveThePivots, IsAfterForward, IsForward}
use Rattle.sector_machine.specs.Accepted.{IsAcceptedForward}
use Rattle.sector_machine.specs.Invariant.{HoldsOfUnits, HoldsOfWaiting, HoldsOfBack, HoldsOfRows, HoldsOfSpans, Holds}
use Rattle.sector_machine.proofs.Lists.{Contains-none, All-from_members, kept_member, member_kept}
use Rattle.sector_machine.proofs.Units.{unit_cases, get_others, rows_inserted, rows_others, Has-others, Has-more, no_rows, unless_empty-some, rows_by_get, row_of_unit, unit_of_row}
use Rattle.sector_machine.proofs.Greatest.{HasGreatestIn-from_test, test-from_HasGreatestIn, greatest_is_there}
use Rattle.sector_machine.proofs.Rows.{row_of_rules, one_unit, member_in_span, waiting_taken, forward_row, waiting_shown_listed}

-- the waiting rows are those of other units, with the rest behind them
module _ (p : ℕ) (order : Order) (equations : List Row) (unit : Unit) (rows rest : List Row) (before : State) (holds : HoldsOfRows p order equations before) (accepted : IsAcceptedForward p order before unit rows rest) (waiting : RowsByUnit) (taken : HasNone waiting unit) (others : (other : Unit) → other ≢ unit → map.get waiting other ≡ unless_empty (rows_at before.waiting other ++ filter (has_greatest_in order other) rest)) where
  -- ---- the rows that wait after the event

  none_of_unit : rows_at waiting unit ≡ []
  none_of_unit = no_rows waiting unit taken

  pub group_is : (other : Unit) → other ≢ unit → rows_at waiting other ≡ rows_at before.waiting other ++ filter (has_greatest_in order other) rest
  group_is other differ = rows_by_get waiting other (rows_at before.waiting other ++ filter (has_greatest_in order other) rest) (others other differ)

  pub rest_row : (row : Row) → Contains rest row → IsOutside p order unit row
  rest_row row member = All-contains (IsOutside p order unit) rest row accepted.outside member

  -- a row that waits in a unit waited there before, or is of the rest
  pub waits_cases : (other : Unit) (row : Row) → Contains (rows_at waiting other) row → (other ≢ unit) × (Contains (rows_at before.waiting other) row ⊎ (Contains rest row × HasGreatestIn order other row))
  waits_cases other row member =
      elim (unit_cases other unit) [
        | inl same ↦ absurd (Contains-none row (subst (λ rs. Contains rs row) (ap (rows_at waiting) same ∙ none_of_unit) member))
        | inr differ ↦ (
          differ,
          elim (Contains-append_cases (rows_at before.waiting other) (filter (has_greatest_in order other) rest) row (subst (λ rs. Contains rs row) (group_is other differ) member)) [
            | inl old ↦ inl old
            | inr new ↦
                let kept = kept_member (has_greatest_in order other) rest row new in
                inr (kept.0, HasGreatestIn-from_test p order other row (rest_row row kept.0).is_row kept.1)
          ],
        )
      ]

  -- what rows and rest show, a row that was taken shows
  pub shown_by_rest : (row : Row) (x : Integral) → Contains rest row → Shows row x → IsShownBySome (rows_at before.waiting unit) x
  shown_by_rest row x member shows =
      accepted.nothing_new row x (Contains-append_right rows rest row member) shows

  shown_by_rows : (row : Row) (x : Integral) → Contains rows row → Shows row x → IsShownBySome (rows_at before.waiting unit) x
  shown_by_rows row x member shows =
      accepted.nothing_new row x (Contains-append_left rows rest row member) shows

  abbrev state_after : State
  state_after = record { units = before.units; waiting = waiting; forward = map.insert before.forward unit rows; back = before.back }

  -- ---- units

  units_hold : HoldsOfUnits equations state_after
  units_hold =
      record {
        units = holds.units.units;
        eliminated = λ other has.
            elim (unit_cases other unit) [
              | inl same ↦ subst (Contains before.units) (sym same) accepted.may.listed
              | inr differ ↦ holds.units.eliminated other (Has-others before.forward unit rows other differ has)
            ];
        waiting = λ row x (other, member) shows.
            elim ((waits_cases other row member).1) [
              | inl old ↦ holds.units.waiting row x (other, old) shows
              | inr new ↦ waiting_shown_listed p order equations before holds unit x (shown_by_rest row x new.0 shows)
            ];
        forward = λ row x (other, member) shows.
            elim (unit_cases other unit) [
              | inl same ↦
                  let new : Contains rows row = subst (λ rs. Contains rs row) (ap (rows_at (map.insert before.forward unit rows)) same ∙ rows_inserted before.forward unit rows) member in
                  waiting_shown_listed p order equations before holds unit x (shown_by_rows row x new shows)
              | inr differ ↦ holds.units.forward row x (other, subst (λ rs. Contains rs row) (rows_others before.forward unit rows other differ) member) shows
            ];
      }

  -- ---- waiting rows

  waiting_group : (other : Unit) (row : Row) → Contains (rows_at waiting other) row → IsTaken p order other row
  waiting_group other row member =
      elim ((waits_cases other row member).1) [
        | inl old ↦ waiting_taken p order equations before holds other row old
        | inr new ↦ record { is_row = (rest_row row new.0).is_row; greatest = new.1 }
      ]

  -- a row that waits in another unit shows nothing of this one
  old_shows_none : (other : Unit) (row : Row) (x : Integral) → other ≢ unit → Contains (rows_at before.waiting other) row → Shows row x → unit_of x ≢ unit
  old_shows_none other row x differ member shows same =
      differ (one_unit order row other unit (waiting_taken p order equations before holds other row member).greatest (accepted.may.alone row x (other, member) shows same))

  not_eliminated : (other : Unit) (row : Row) (x : Integral) → Contains (rows_at waiting other) row → Shows row x → HasNone (map.insert before.forward unit rows) (unit_of x)
  not_eliminated other row x member shows =
      let cases = waits_cases other row member in
      elim cases.1 [
        | inl old ↦
            get_others before.forward unit rows (unit_of x) (old_shows_none other row x cases.0 old shows) ∙ holds.waiting.not_eliminated row x (other, old) shows
        | inr new ↦
            let shown = shown_by_rest row x new.0 shows in
            get_others before.forward unit rows (unit_of x) ((rest_row row new.0).none x shows) ∙ holds.waiting.not_eliminated shown.0 x (unit, shown.1) shown.2
      ]

  waiting_holds : HoldsOfWaiting p order state_after
  waiting_holds =
      record {
        grouped = λ other. All-from_members (IsTaken p order other) (rows_at waiting other) (waiting_group other);
        none_empty = λ other is.
            elim (unit_cases other unit) [
              | inl same ↦ let none = ap (map.get waiting) same ∙ taken in absurd (cc)
              | inr differ ↦ unless_empty-some (rows_at before.waiting other ++ filter (has_greatest_in order other) rest) (sym (others other differ) ∙ is)
            ];
        not_eliminated = λ row x (other, member) shows. not_eliminated other row x member shows;
      }

  -- ---- forward rows and back rows

  forward_holds : (other : Unit) → AreRules p order other (rows_at (map.insert before.forward unit rows) other)
  forward_holds other =
      elim (unit_cases other unit) [
        | inl same ↦
            let here : AreRules p order unit (rows_at (map.insert before.forward unit rows) unit) = subst (AreRules p order unit) (sym (rows_inserted before.forward unit rows)) accepted.rules in
            subst (λ u. AreRules p order u (rows_at (map.insert before.forward unit rows) u)) (sym same) here
        | inr differ ↦ subst (AreRules p order other) (sym (rows_others before.forward unit rows other differ)) (holds.forward other)
      ]

  -- a unit with back rows is another one
  not_done : (other : Unit) → Has before.back other → other ≢ unit
  not_done other has same = holds.back.eliminated other has (ap (map.get before.forward) same ∙ accepted.may.new)

  back_holds : HoldsOfBack p order state_after
  back_holds =
      record {
        rules = holds.back.rules;
        eliminated = λ other has. Has-more before.forward unit rows other (holds.back.eliminated other has);
        pivots = λ other has.
            subst (λ rs. HaveThePivots order rs (rows_at before.back other)) (sym (rows_others before.forward unit rows other (not_done other has))) (holds.back.pivots other has);
        closed = holds.back.closed;
        apart = holds.back.apart;
      }

  -- ---- spans

  abbrev old_waiting : List Row
  old_waiting = rows_of before.units before.waiting

  abbrev old_forward : List Row
  old_forward = rows_of before.units before.forward

  abbrev new_waiting : List Row
  new_waiting = rows_of before.units waiting

  abbrev new_forward : List Row
  new_forward = rows_of before.units (map.insert before.forward unit rows)

  row_listed : (row : Row) → Contains rows row → Contains new_forward row
  row_listed row member =
      row_of_unit before.units (map.insert before.forward unit rows) unit row accepted.may.listed (subst (λ rs. Contains rs row) (sym (rows_inserted before.forward unit rows)) member)

  rest_waits : (row : Row) → Contains rest row → Contains new_waiting row
  rest_waits row member =
      let is = rest_row row member in
      let top = greatest_is_there p order row is.is_row is.some in
      let x = top.0 in
      let other = unit_of x in
      let differ = is.none x (top.1).shown in
      let listed = waiting_shown_listed p order equations before holds unit x (shown_by_rest row x member (top.1).shown) in
      let kept = member_kept (has_greatest_in order other) rest row member (test-from_HasGreatestIn p order other row is.is_row (x, top.1, λ i. other)) in
      row_of_unit before.units waiting other row listed
      (subst (λ rs. Contains rs row) (sym (group_is other differ)) (Contains-append_right (rows_at before.waiting other) (filter (has_greatest_in order other) rest) row kept))

  old_waits : (other : Unit) (row : Row) → other ≢ unit → Contains before.units other → Contains (rows_at before.waiting other) row → Contains new_waiting row
  old_waits other row differ listed member =
      row_of_unit before.units waiting other row listed
      (subst (λ rs. Contains rs row) (sym (group_is other differ)) (Contains-append_left (rows_at before.waiting other) (filter (has_greatest_in order other) rest) row member))

  forward_stays : (row : Row) → Contains old_forward row → Contains new_forward row × IsRow p order row
  forward_stays row member =
      let found = unit_of_row before.units before.forward row member in
      let other = found.0 in
      elim (unit_cases other unit) [
        | inl same ↦ absurd (Contains-none row (subst (λ rs. Contains rs row) (ap (rows_at before.forward) same ∙ no_rows before.forward unit accepted.may.new) found.2))
        | inr differ ↦ (
          row_of_unit before.units (map.insert before.forward unit rows) other row found.1 (subst (λ rs. Contains rs row) (sym (rows_others before.forward unit rows other differ)) found.2),
          forward_row p order equations before holds other row found.2,
        )
      ]

  in_new : (row : Row) → IsRow p order row → Contains new_waiting row ⊎ Contains new_forward row → InSpan p (new_waiting ++ new_forward) row
  in_new row is member =
      member_in_span p order (new_waiting ++ new_forward) row is
      (elim member [ inl waits ↦ Contains-append_left new_waiting new_forward row waits | inr done ↦ Contains-append_right new_waiting new_forward row done ])

  in_old : (row : Row) → IsRow p order row → Contains old_waiting row ⊎ Contains old_forward row → InSpan p (old_waiting ++ old_forward) row
  in_old row is member =
      member_in_span p order (old_waiting ++ old_forward) row is
      (elim member [ inl waits ↦ Contains-append_left old_waiting old_forward row waits | inr done ↦ Contains-append_right old_waiting old_forward row done ])

  is_rule : (row : Row) → Contains rows row → IsRow p order row
  is_rule row member = row_of_rules p order unit rows row accepted.rules member

  pub rows_hold_after : HoldsOfRows p order equations state_after
  rows_hold_after = record { are_rows = holds.are_rows; units = units_hold; waiting = waiting_holds; forward = forward_holds; back = back_holds }

  module _ (spans : HoldsOfSpans p equations before) (e : IsElimination p order unit (rows_at before.waiting unit) rows rest) where
    made_in_new : All (InSpan p (new_waiting ++ new_forward)) (rows ++ rest)
    made_in_new =
        All-append (InSpan p (new_waiting ++ new_forward)) rows rest
        (All-from_members (InSpan p (new_waiting ++ new_forward)) rows (λ row member. in_new row (is_rule row member) (inr (row_listed row member))))
        (All-from_members (InSpan p (new_waiting ++ new_forward)) rest (λ row member. in_new row (rest_row row member).is_row (inl (rest_waits row member))))

    taken_in_old : All (InSpan p (old_waiting ++ old_forward)) (rows_at before.waiting unit)
    taken_in_old =
        All-from_members (InSpan p (old_waiting ++ old_forward)) (rows_at before.waiting unit)
        (λ row member. in_old row (waiting_taken p order equations before holds unit row member).is_row (inl (row_of_unit before.units before.waiting unit row accepted.may.listed member)))

    made_in_old : All (InSpan p (old_waiting ++ old_forward)) (rows ++ rest)
    made_in_old = All_in_span-trans p (rows ++ rest) (rows_at before.waiting unit) (old_waiting ++ old_forward) e.span.back taken_in_old

    forth_waiting : (row : Row) → Contains old_waiting row → InSpan p (new_waiting ++ new_forward) row
    forth_waiting row member =
        let found = unit_of_row before.units before.waiting row member in
        let other = found.0 in
        elim (unit_cases other unit) [
          | inl same ↦
              let in_taken : Contains (rows_at before.waiting unit) row = subst (λ u. Contains (rows_at before.waiting u) row) same found.2 in
              InSpan-trans p (rows ++ rest) (new_waiting ++ new_forward) row made_in_new (All-contains (InSpan p (rows ++ rest)) (rows_at before.waiting unit) row e.span.forth in_taken)
          | inr differ ↦ in_new row (waiting_taken p order equations before holds other row found.2).is_row (inl (old_waits other row differ found.1 found.2))
        ]

    back_waiting : (row : Row) → Contains new_waiting row → InSpan p (old_waiting ++ old_forward) row
    back_waiting row member =
        let found = unit_of_row before.units waiting row member in
        elim ((waits_cases found.0 row found.2).1) [
          | inl old ↦ in_old row (waiting_taken p order equations before holds found.0 row old).is_row (inl (row_of_unit before.units before.waiting found.0 row found.1 old))
          | inr new ↦ All-contains (InSpan p (old_waiting ++ old_forward)) (rows ++ rest) row made_in_old (Contains-append_right rows rest row new.0)
        ]

    back_forward : (row : Row) → Contains new_forward row → InSpan p (old_waiting ++ old_forward) row
    back_forward row member =
        let found = unit_of_row before.units (map.insert before.forward unit rows) row member in
        let other = found.0 in
        elim (unit_cases other unit) [
          | inl same ↦
              let new : Contains rows row = subst (λ rs. Contains rs row) (ap (rows_at (map.insert before.forward unit rows)) same ∙ rows_inserted before.forward unit rows) found.2 in
              All-contains (InSpan p (old_waiting ++ old_forward)) (rows ++ rest) row made_in_old (Contains-append_left rows rest row new)
          | inr differ ↦
              let old : Contains (rows_at before.forward other) row = subst (λ rs. Contains rs row) (rows_others before.forward unit rows other differ) found.2 in
              in_old row (forward_row p order equations before holds other row old) (inr (row_of_unit before.units before.forward other row found.1 old))
        ]

    whole : SameSpan p (old_waiting ++ old_forward) (new_waiting ++ new_forward)
    whole =
        record {
          forth = All-append (InSpan p (new_waiting ++ new_forward)) old_waiting old_forward
              (All-from_members (InSpan p (new_waiting ++ new_forward)) old_waiting forth_waiting)
              (All-from_members (InSpan p (new_waiting ++ new_forward)) old_forward (λ row member. let stays = forward_stays row member in in_new row stays.1 (inr stays.0)));
          back = All-append (InSpan p (old_waiting ++ old_forward)) new_waiting new_forward
              (All-from_members (InSpan p (old_waiting ++ old_forward)) new_waiting back_waiting)
              (All-from_members (InSpan p (old_waiting ++ old_forward)) new_forward back_forward);
        }

    pub spans_hold : HoldsOfSpans p equations state_after
    spans_hold =
        record {
          whole = SameSpan-trans p equations (old_waiting ++ old_forward) (new_waiting ++ new_forward) spans.whole whole;
          spanned = All_in_span-trans p (back_rows before) old_forward new_forward spans.spanned
              (All-from_members (InSpan p new_forward) old_forward (λ row member. let stays = forward_stays row member in member_in_span p order new_forward row stays.1 stays.0));
          spans = λ other has.
              subst (All (InSpan p (back_rows before))) (sym (rows_others before.forward unit rows other (not_done other has))) (spans.spans other has);
        }

pub after_is : (order : Order) (unit : Unit) (rows rest : List Row) (before after : State) → IsAfterForward order unit rows rest before after → record { units = before.units; waiting = after.waiting; forward = map.insert before.forward unit rows; back = before.back } ≡ after
after_is order unit rows rest before after c = λ i. record { units = sym c.units i; waiting = after.waiting; forward = sym c.forward i; back = sym c.back i }

pub accepted_forward_keeps : (p : ℕ) (order : Order) (equations : List Row) (unit : Unit) (rows rest : List Row) (before after : State) → HoldsOfRows p order equations before → IsAcceptedForward p order before unit rows rest → IsAfterForward order unit rows rest before after → HoldsOfRows p order equations after
accepted_forward_keeps p order equations unit rows rest before after holds accepted c =
    subst (HoldsOfRows p order equations) (after_is order unit rows rest before after c)
    (rows_hold_after p order equations unit rows rest before holds accepted after.waiting c.taken c.waiting)

-- an elimination of the waiting rows is accepted
pub elimination_accepted : (p : ℕ) (order : Order) (unit : Unit) (rows rest : List Row) (before : State) → MayForward order unit before → IsElimination p order unit (rows_at before.waiting unit) rows rest → IsAcceptedForward p order before unit rows rest
elimination_accepted p order unit rows rest before may e =
    record {
      may = may;
      rules = record { each = e.are_rules; apart = e.apart };
      outside = e.are_outside;
      nothing_new = λ row x member shows. nothing_new p order unit (rows_at before.waiting unit) rows rest row x e member shows;
    }

pub forward_is_accepted : (p : ℕ) (order : Order) (unit : Unit) (rows rest : List Row) (before after : State) → IsForward p order unit rows rest before after → IsAcceptedForward p order before unit rows rest
forward_is_accepted p order unit rows rest before after event = elimination_accepted p order unit rows rest before event.may event.elimination

pub forward_keeps : (p : ℕ) (order : Order) (equations : List Row) (unit : Unit) (rows rest : List Row) (before after : State) → Holds p order equations before → IsForward p order unit rows rest before after → Holds p order equations after
forward_keeps p order equations unit rows rest before after holds event =
    let c = event.change in
    let accepted = forward_is_accepted p order unit rows rest before after event in
    record {
      rows = accepted_forward_keeps p order equations unit rows rest before after holds.rows accepted c;
      spans = subst (HoldsOfSpans p equations) (after_is order unit rows rest before after c)
          (spans_hold p order equations unit rows rest before holds.rows accepted after.waiting c.taken c.waiting holds.spans event.elimination);
    }
