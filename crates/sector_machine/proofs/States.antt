-- There is a state after each forward event.
use Rattle.std.proofs.Common.{◌≡◌, ◌≢◌, ℕ, cond, List, [], ◌∷◌, ◌++◌, Contains, filter, refl, sym, ap, subst, ◌∙◌, ◌⊎◌, inl, inr}
use Rattle.std.proofs.lemmas.List.Elements.{All-contains, Contains-append_right, Contains-append_cases}
use Rattle.std.specs.FinMap as map
use Rattle.std.specs.Ordering.{eq_by_cmp}
use Rattle.integral_index.specs.Order.{unit_compare}
use Rattle.integral_index.specs.declared.Unit.{Unit}
use Rattle.integral_index.specs.declared.Order.{Order}
use Rattle.sparse_row.specs.Row.{Row}
use Rattle.sector_forward.specs.Elimination.{IsOutside}
use Rattle.sector_forward.proofs.Members.{Contains-cons_cases, Contains-here}
use Rattle.sector_machine.specs.State.{State, RowsByUnit, HasNone, rows_at, unless_empty, has_greatest_in}
use Rattle.sector_machine.specs.Machine.{IsAfterForward}
use Rattle.sector_machine.specs.Accepted.{IsAcceptedForward}
use Rattle.sector_machine.specs.Invariant.{HoldsOfRows}
use Rattle.sector_machine.proofs.Lists.{Contains-none, kept_member}
use Rattle.sector_machine.proofs.Units.{unit_cases, tied_unit, other_unit, get_inserted, get_others}
use Rattle.sector_machine.proofs.Greatest.{HasGreatestIn-from_test}
use Rattle.sector_machine.proofs.Rows.{waiting_taken, waiting_shown_listed}

-- ---- a map with given rows at the units of a list

with_rows : RowsByUnit → Unit → List Row → RowsByUnit
with_rows m unit [] = m
with_rows m unit (row ∷ rows) = map.insert m unit (row ∷ rows)

map_of : (Unit → List Row) → List Unit → RowsByUnit
map_of group [] = map.empty
map_of group (unit ∷ units) = with_rows (map_of group units) unit (group unit)

-- what the map has for a unit
IsSet : (Unit → List Row) → List Unit → RowsByUnit → Unit → Type 0
IsSet group units m u = (map.get m u ≡ unless_empty (group u)) ⊎ (HasNone m u × ¬ (Contains units u))

set_more : (group : Unit → List Row) (units : List Unit) (m : RowsByUnit) (unit u : Unit) (rows : List Row) → rows ≡ group unit → IsSet group units m u → IsSet group (unit ∷ units) (with_rows m unit rows) u
unfolding with_rows IsSet
set_more group units m unit u [] is (inl set) = inl set
set_more group units m unit u [] is (inr (none, unlisted)) =
    elim (unit_cases u unit) [
      | inl same ↦ inl (none ∙ sym (ap unless_empty (ap group same ∙ sym is)))
      | inr differ ↦ inr (none, λ member. elim (Contains-cons_cases unit units u member) [ inl same ↦ differ (sym same) | inr later ↦ unlisted later ])
    ]
set_more group units m unit u (row ∷ rows) is before =
    elim (unit_cases u unit) [
      | inl same ↦ inl (ap (map.get (map.insert m unit (row ∷ rows))) same ∙ get_inserted m unit (row ∷ rows) ∙ ap unless_empty (is ∙ ap group (sym same)))
      | inr differ ↦
          let stays = get_others m unit (row ∷ rows) u differ in
          elim before [
            | inl set ↦ inl (stays ∙ set)
            | inr (none, unlisted) ↦ inr (stays ∙ none, λ member. elim (Contains-cons_cases unit units u member) [ inl same ↦ differ (sym same) | inr later ↦ unlisted later ])
          ]
    ]

map_is_set : (group : Unit → List Row) (units : List Unit) (u : Unit) → IsSet group units (map_of group units) u
unfolding map_of IsSet
map_is_set group [] u = inr (map.get-empty unit_compare u, Contains-none u)
map_is_set group (unit ∷ units) u = set_more group units (map_of group units) unit u (group unit) refl (map_is_set group units u)

-- where every unit with rows is in the list, the map has the rows of each
set_everywhere : (group : Unit → List Row) (units : List Unit) → ((u : Unit) (row : Row) → Contains (group u) row → Contains units u) → (u : Unit) → map.get (map_of group units) u ≡ unless_empty (group u)
unfolding IsSet
set_everywhere group units listed u =
    elim (map_is_set group units u) [
      | inl set ↦ set
      | inr (none, unlisted) ↦
          elim (group u) as (λ rows. group u ≡ rows → map.get (map_of group units) u ≡ unless_empty rows) [
            | [] ↦ λ _. none
            | row ∷ rows ↦ λ is. absurd (unlisted (listed u row (subst (λ rs. Contains rs row) (sym is) (Contains-here row rows))))
          ] refl
    ]

-- ---- the state after a forward event

module _ (p : ℕ) (order : Order) (equations : List Row) (unit : Unit) (rows rest : List Row) (before : State) (holds : HoldsOfRows p order equations before) (accepted : IsAcceptedForward p order before unit rows rest) where
  group : Unit → List Row
  group u = cond (eq_by_cmp unit_compare u unit) [] (rows_at before.waiting u ++ filter (has_greatest_in order u) rest)

  group_taken : group unit ≡ []
  unfolding group
  group_taken = ap (λ b. cond b [] (rows_at before.waiting unit ++ filter (has_greatest_in order unit) rest)) (tied_unit unit unit refl)

  group_other : (u : Unit) → u ≢ unit → group u ≡ rows_at before.waiting u ++ filter (has_greatest_in order u) rest
  unfolding group
  group_other u differ = ap (λ b. cond b [] (rows_at before.waiting u ++ filter (has_greatest_in order u) rest)) (other_unit u unit differ)

  group_listed : (u : Unit) (row : Row) → Contains (group u) row → Contains before.units u
  group_listed u row member =
      elim (unit_cases u unit) [
        | inl same ↦ absurd (Contains-none row (subst (λ rs. Contains rs row) (ap group same ∙ group_taken) member))
        | inr differ ↦
            elim (Contains-append_cases (rows_at before.waiting u) (filter (has_greatest_in order u) rest) row (subst (λ rs. Contains rs row) (group_other u differ) member)) [
              | inl old ↦
                  let top = (waiting_taken p order equations before holds u row old).greatest in
                  subst (Contains before.units) top.2 (holds.units.waiting row top.0 (u, old) (top.1).shown)
              | inr new ↦
                  let kept = kept_member (has_greatest_in order u) rest row new in
                  let is = (All-contains (IsOutside p order unit) rest row accepted.outside kept.0).is_row in
                  let top = HasGreatestIn-from_test p order u row is kept.1 in
                  let shown = accepted.nothing_new row top.0 (Contains-append_right rows rest row kept.0) (top.1).shown in
                  subst (Contains before.units) top.2 (waiting_shown_listed p order equations before holds unit top.0 shown)
            ]
      ]

  pub forward_state : (after : State) × IsAfterForward order unit rows rest before after
  forward_state =
      let set = set_everywhere group before.units group_listed in (
        record { units = before.units; waiting = map_of group before.units; forward = map.insert before.forward unit rows; back = before.back },
        record {
          units = refl;
          taken = set unit ∙ ap unless_empty group_taken;
          waiting = λ other differ. set other ∙ ap unless_empty (group_other other differ);
          forward = refl;
          back = refl;
        },
      )
