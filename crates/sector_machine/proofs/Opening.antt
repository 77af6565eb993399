-- The invariant holds of the opening.
use Rattle.std.proofs.Common.{◌≡◌, ℕ, List, [], ◌++◌, Contains, filter, sym, ap, subst, ◌∙◌, inl, inr, arith}
use Rattle.std.proofs.lemmas.List.Elements.{All-contains, All-nil, Contains-append_left, Contains-append_cases}
use Rattle.std.specs.FinMap as map
use Rattle.std.specs.declared.cmp.Ordering.TheVariants.{Less}
use Rattle.integral_index.specs.Order.{unit_of, unit_compare}
use Rattle.integral_index.specs.declared.Unit.{Unit}
use Rattle.integral_index.specs.declared.Order.{Order}
use Rattle.sparse_row.specs.Row.{Row, IsRow}
use Rattle.sparse_row.specs.Span.{InSpan}
use Rattle.sparse_row.proofs.RowSpans.{InSpan-empty}
use Rattle.sector_forward.specs.Elimination.{IsTaken, IsRuleOf}
use Rattle.back_substitute.specs.Substitution.{AreRules}
use Rattle.sector_machine.specs.State.{State, RowsByUnit, HasNone, rows_at, rows_of, has_greatest_in}
use Rattle.sector_machine.specs.Machine.{Opens, back_rows}
use Rattle.sector_machine.specs.Invariant.{HoldsOfUnits, HoldsOfWaiting, HoldsOfBack, HoldsOfSpans, Holds}
use Rattle.sector_machine.proofs.Lists.{Contains-none, All-from_members, kept_member, member_kept}
use Rattle.sector_machine.proofs.Units.{rows_of_nothing, unless_empty-some, rows_by_get, row_of_unit, unit_of_row}
use Rattle.sector_machine.proofs.Greatest.{HasGreatestIn-from_test, test-from_HasGreatestIn, empty_or_greatest}
use Rattle.sector_machine.proofs.Rows.{member_in_span}
use Rattle.sector_machine.proofs.Apart.{AreApart-joined}

-- ---- maps without units

module _ (m : RowsByUnit) (empty : m ≡ map.empty) where
  none_there : (unit : Unit) → HasNone m unit
  none_there unit = ap (λ n. map.get n unit) empty ∙ map.get-empty unit_compare unit

  no_rows_there : (unit : Unit) → rows_at m unit ≡ []
  no_rows_there unit = ap (λ n. rows_at n unit) empty ∙ rows_of_nothing unit

  no_member : (unit : Unit) (row : Row) → ¬ (Contains (rows_at m unit) row)
  no_member unit row member = Contains-none row (subst (λ rows. Contains rows row) (no_rows_there unit) member)

  no_row : (units : List Unit) (row : Row) → ¬ (Contains (rows_of units m) row)
  no_row units row member = let found = unit_of_row units m row member in no_member found.0 row found.2

  no_rules : (p : ℕ) (order : Order) (unit : Unit) → AreRules p order unit (rows_at m unit)
  no_rules p order unit =
      subst (AreRules p order unit) (sym (no_rows_there unit)) (record { each = All-nil (IsRuleOf p order unit); apart = λ i j d x h l differ pivot. absurd (omega arith) })

module _ (p : ℕ) (order : Order) (equations : List Row) (state : State) (opens : Opens p order equations state) where
  waiting_is : (unit : Unit) → rows_at state.waiting unit ≡ filter (has_greatest_in order unit) equations
  waiting_is unit = rows_by_get state.waiting unit (filter (has_greatest_in order unit) equations) (opens.waiting unit)

  is_equation : (row : Row) → Contains equations row → IsRow p order row
  is_equation row member = All-contains (IsRow p order) equations row opens.are_rows member

  from_equation : (unit : Unit) (row : Row) → Contains (rows_at state.waiting unit) row → Contains equations row × IsTaken p order unit row
  from_equation unit row member =
      let kept = kept_member (has_greatest_in order unit) equations row (subst (λ rows. Contains rows row) (waiting_is unit) member) in
      let is = is_equation row kept.0 in
      (kept.0, record { is_row = is; greatest = HasGreatestIn-from_test p order unit row is kept.1 })

  units_hold : HoldsOfUnits equations state
  units_hold =
      record {
        units = opens.units;
        eliminated = λ unit has. absurd (has (none_there state.forward opens.forward unit));
        waiting = λ row x (unit, member) shows. opens.units.all x (row, (from_equation unit row member).0, shows);
        forward = λ row x (unit, member) shows. absurd (no_member state.forward opens.forward unit row member);
      }

  waiting_holds : HoldsOfWaiting p order state
  waiting_holds =
      record {
        grouped = λ unit. All-from_members (IsTaken p order unit) (rows_at state.waiting unit) (λ row member. (from_equation unit row member).1);
        none_empty = λ unit e. unless_empty-some (filter (has_greatest_in order unit) equations) (sym (opens.waiting unit) ∙ e);
        not_eliminated = λ row x _ _. none_there state.forward opens.forward (unit_of x);
      }

  back_holds : HoldsOfBack p order state
  back_holds =
      record {
        rules = no_rules state.back opens.back p order;
        eliminated = λ unit has. absurd (has (none_there state.back opens.back unit));
        pivots = λ unit has. absurd (has (none_there state.back opens.back unit));
        closed = λ row x (unit, member) shows. absurd (no_member state.back opens.back unit row member);
        apart = AreApart-joined order (rows_at state.back) (λ unit other. unit_compare unit other ≡ Less) state.units
            (λ unit. (no_rules state.back opens.back p order unit).apart) opens.units.ascend
            (λ unit other row _ _ member _. absurd (no_member state.back opens.back unit row member));
      }

  all_rows : List Row
  all_rows = rows_of state.units state.waiting ++ rows_of state.units state.forward

  equation_waits : (row : Row) → Contains equations row → InSpan p all_rows row
  unfolding all_rows
  equation_waits row member =
      let is = is_equation row member in
      elim (empty_or_greatest p order row is) [
        | inl none ↦ InSpan-empty p all_rows row none
        | inr top ↦
            let x = top.0 in
            let unit = unit_of x in
            let kept = member_kept (has_greatest_in order unit) equations row member (test-from_HasGreatestIn p order unit row is (x, top.1, λ i. unit)) in
            let waits : Contains (rows_at state.waiting unit) row = subst (λ rows. Contains rows row) (sym (waiting_is unit)) kept in
            let listed = opens.units.all x (row, member, (top.1).shown) in
            member_in_span p order all_rows row is
            (Contains-append_left (rows_of state.units state.waiting) (rows_of state.units state.forward) row (row_of_unit state.units state.waiting unit row listed waits))
      ]

  from_all_rows : (row : Row) → Contains all_rows row → InSpan p equations row
  unfolding all_rows
  from_all_rows row member =
      elim (Contains-append_cases (rows_of state.units state.waiting) (rows_of state.units state.forward) row member) [
        | inl waits ↦
            let found = unit_of_row state.units state.waiting row waits in
            let equation = (from_equation found.0 row found.2).0 in
            member_in_span p order equations row (is_equation row equation) equation
        | inr eliminated ↦ absurd (no_row state.forward opens.forward state.units row eliminated)
      ]

  spans_hold : HoldsOfSpans p equations state
  unfolding all_rows
  spans_hold =
      record {
        whole = record { forth = All-from_members (InSpan p all_rows) equations equation_waits; back = All-from_members (InSpan p equations) all_rows from_all_rows };
        spanned = All-from_members (InSpan p (rows_of state.units state.forward)) (back_rows state) (λ row member. absurd (no_row state.back opens.back state.units row member));
        spans = λ unit has. absurd (has (none_there state.back opens.back unit));
      }

  pub opening_holds : Holds p order equations state
  opening_holds =
      record {
        rows = record {
          are_rows = opens.are_rows;
          units = units_hold;
          waiting = waiting_holds;
          forward = no_rules state.forward opens.forward p order;
          back = back_holds;
        };
        spans = spans_hold;
      }
