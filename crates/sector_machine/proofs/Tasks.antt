-- An event leaves the tasks of the other units as they were.
use Rattle.std.proofs.Common.{◌≡◌, ◌≢◌, ℕ, Bool, List, [], ◌++◌, Contains, filter, refl, sym, ap, subst, ◌∙◌, inl, inr, append-nil}
use Rattle.std.specs.FinMap as map
use Rattle.std.proofs.lemmas.Bool.{false_from_ne_true}
use Rattle.integral_index.specs.Order.{unit_of}
use Rattle.integral_index.specs.Integral.{Integral}
use Rattle.integral_index.specs.declared.Unit.{Unit}
use Rattle.integral_index.specs.declared.Order.{Order}
use Rattle.sparse_row.specs.Row.{Row, Shows}
use Rattle.back_substitute.specs.Substitution.{AreRules}
use Rattle.sector_machine.specs.State.{State, RowsByUnit, HasNone, rows_at, rows_of, unless_empty, has_greatest_in}
use Rattle.sector_machine.specs.Machine.{MayForward, MayBack, Event, unit_of_event, Leads}
use Rattle.sector_machine.specs.Tasks.{shows_pivot_of, below_of, KeepsTask}
use Rattle.sector_machine.specs.Accepted.{IsAcceptedForward}
use Rattle.sector_machine.specs.Invariant.{HoldsOfRows}
use Rattle.sector_machine.proofs.Lists.{none_kept, filter-joined, joined_same}
use Rattle.sector_machine.proofs.Units.{unit_cases, get_others, rows_inserted, rows_others, Has-more, no_rows}
use Rattle.sector_machine.proofs.Greatest.{HasGreatestIn-from_test, shown_from_test}
use Rattle.sector_machine.proofs.Rows.{row_of_rules, unit_of_pivot, one_unit, waiting_taken}
use Rattle.sector_machine.proofs.ForwardEvents.{group_is, rest_row, waits_cases, shown_by_rest, forward_is_accepted}
use Rattle.sector_machine.proofs.ForwardEvents as forward_events
use Rattle.sector_machine.proofs.BackEvents as back_events

-- ---- after a forward event

module _ (p : ℕ) (order : Order) (equations : List Row) (unit : Unit) (rows rest : List Row) (before : State) (holds : HoldsOfRows p order equations before) (accepted : IsAcceptedForward p order before unit rows rest) (waiting : RowsByUnit) (taken : HasNone waiting unit) (others : (other : Unit) → other ≢ unit → map.get waiting other ≡ unless_empty (rows_at before.waiting other ++ filter (has_greatest_in order other) rest)) (other : Unit) (differ : other ≢ unit) where
  abbrev after : State
  after = record { units = before.units; waiting = waiting; forward = map.insert before.forward unit rows; back = before.back }

  -- the rest shows nothing of a unit that may be eliminated beside this one
  rest_shows_none : MayForward order other before → (row : Row) (x : Integral) → Contains rest row → Shows row x → unit_of x ≢ other
  rest_shows_none may_other row x member shows same =
      let shown = shown_by_rest p order equations unit rows rest before holds accepted waiting taken others row x member shows in
      let in_other = may_other.alone shown.0 x (unit, shown.1) shown.2 same in
      differ (sym (one_unit order shown.0 unit other (waiting_taken p order equations before holds unit shown.0 shown.1).greatest in_other))

  rest_waits_elsewhere : MayForward order other before → filter (has_greatest_in order other) rest ≡ []
  rest_waits_elsewhere may_other =
      none_kept (has_greatest_in order other) rest
      (λ row member.
      false_from_ne_true (has_greatest_in order other row)
      (λ passes.
      let is = (rest_row p order equations unit rows rest before holds accepted waiting taken others row member).is_row in
      let top = HasGreatestIn-from_test p order other row is passes in
      rest_shows_none may_other row top.0 member (top.1).shown top.2))

  still_forward : MayForward order other before → MayForward order other after × (rows_at waiting other ≡ rows_at before.waiting other)
  still_forward may_other = (
    record {
      listed = may_other.listed;
      new = get_others before.forward unit rows other differ ∙ may_other.new;
      alone = λ row x (place, member) shows same.
          elim ((waits_cases p order equations unit rows rest before holds accepted waiting taken others place row member).1) [
            | inl old ↦ may_other.alone row x (place, old) shows same
            | inr new ↦ absurd (rest_shows_none may_other row x new.0 shows same)
          ];
    },
    group_is p order equations unit rows rest before holds accepted waiting taken others other differ
        ∙ ap (λ rs. rows_at before.waiting other ++ rs) (rest_waits_elsewhere may_other) ∙ append-nil (rows_at before.waiting other),
  )

  forward_same : rows_at (map.insert before.forward unit rows) other ≡ rows_at before.forward other
  forward_same = rows_others before.forward unit rows other differ

  still_back : MayBack other before → MayBack other after × (rows_at (map.insert before.forward unit rows) other ≡ rows_at before.forward other) × (below_of order after other ≡ below_of order before other)
  still_back may_other = (
    record {
      eliminated = Has-more before.forward unit rows other may_other.eliminated;
      new = may_other.new;
      lesser = λ row x member shows apart. may_other.lesser row x (subst (λ rs. Contains rs row) forward_same member) shows apart;
    },
    forward_same,
    ap (λ rs. filter (shows_pivot_of order rs) (rows_of before.units before.back)) forward_same,
  )

  pub forward_keeps_task : KeepsTask order other before after
  forward_keeps_task = record { forward = still_forward; back = still_back }

-- ---- after a back event

module _ (p : ℕ) (order : Order) (equations : List Row) (unit : Unit) (rows : List Row) (before : State) (holds : HoldsOfRows p order equations before) (may : MayBack unit before) (rules : AreRules p order unit rows) (other : Unit) (differ : other ≢ unit) where
  abbrev after_back : State
  after_back = record { units = before.units; waiting = before.waiting; forward = before.forward; back = map.insert before.back unit rows }

  abbrev is_shown : Row → Bool
  is_shown = shows_pivot_of order (rows_at before.forward other)

  -- the forward rows of the other unit show no pivot of the rows
  none_shown : MayBack other before → filter is_shown rows ≡ []
  none_shown may_other =
      none_kept is_shown rows
      (λ row member.
      false_from_ne_true (is_shown row)
      (λ passes.
      let found = shown_from_test p order (rows_at before.forward other) row (row_of_rules p order unit rows row rules member) passes in
      let x = found.0 in
      let of_unit : unit_of x ≡ unit = unit_of_pivot p order unit rows row x rules member found.1 in
      let shown = found.2 in
      may_other.lesser shown.0 x shown.1 shown.2 (λ e. differ (sym e ∙ of_unit)) (ap (map.get before.back) of_unit ∙ may.new)))

  same_below : MayBack other before → below_of order after_back other ≡ below_of order before other
  same_below may_other =
      filter-joined (rows_at (map.insert before.back unit rows)) is_shown before.units
      ∙ joined_same (λ u. filter is_shown (rows_at (map.insert before.back unit rows) u)) (λ u. filter is_shown (rows_at before.back u)) before.units
      (λ u.
      elim (unit_cases u unit) [
        | inl same ↦
            ap (filter is_shown) (ap (rows_at (map.insert before.back unit rows)) same ∙ rows_inserted before.back unit rows) ∙ none_shown may_other
            ∙ sym (ap (filter is_shown) (ap (rows_at before.back) same ∙ no_rows before.back unit may.new))
        | inr apart ↦ ap (filter is_shown) (rows_others before.back unit rows u apart)
      ])
      ∙ sym (filter-joined (rows_at before.back) is_shown before.units)

  pub back_keeps_task : KeepsTask order other before after_back
  back_keeps_task =
      record {
        forward = λ may_other. (record { listed = may_other.listed; new = may_other.new; alone = may_other.alone }, refl);
        back = λ may_other. (
          record {
            eliminated = may_other.eliminated;
            new = get_others before.back unit rows other differ ∙ may_other.new;
            lesser = λ row x member shows apart. Has-more before.back unit rows (unit_of x) (may_other.lesser row x member shows apart);
          },
          refl,
          same_below may_other,
        );
      }

-- ---- after either

pub event_keeps_task : (p : ℕ) (order : Order) (equations : List Row) (event : Event) (unit : Unit) (before after : State) → HoldsOfRows p order equations before → Leads p order event before after → unit ≢ unit_of_event event → KeepsTask order unit before after
event_keeps_task p order equations (Event.Forward unit rows rest) other before after holds leads differ =
    let c = leads.change in
    subst (KeepsTask order other before) (forward_events.after_is order unit rows rest before after c)
    (forward_keeps_task p order equations unit rows rest before holds (forward_is_accepted p order unit rows rest before after leads) after.waiting c.taken c.waiting other differ)
event_keeps_task p order equations (Event.Back unit rows) other before after holds leads differ =
    subst (KeepsTask order other before) (back_events.after_is unit rows before after leads.change) (back_keeps_task p order equations unit rows before holds leads.may leads.rules other differ)
