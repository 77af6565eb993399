-- What the slots tell of all back rows.
use Rattle.std.proofs.Common.{◌≡◌, ◌↔◌, ℕ, ◌<◌, IsTrue, Bool, unwrap_or, List, [], ◌++◌, length, get_or, All, Contains, flat_map, sym, ap, subst, ◌∙◌, inl, inr}
use Rattle.std.proofs.lemmas.List.Elements.{All-contains, Contains-append_left, Contains-append_right, Contains-append_cases, Contains-get_or}
use Rattle.integral_index.specs.declared.Order.{Order}
use Rattle.integral_index.specs.declared.Unit.{Unit}
use Rattle.integral_index.specs.Integral.{Integral}
use Rattle.sparse_row.specs.Row.{Row}
use Rattle.sector_forward.specs.Elimination.{IsShownBySome}
use Rattle.back_substitute.specs.Substitution.{ShowsNoPivotOf}
use Rattle.sector_machine.specs.State.{rows_at}
use Rattle.sector_machine.specs.Machine.{Ascends, back_rows, MayForward, MayBack}
use Rattle.sector_machine.specs.Accepted.{IsAcceptedForward, IsAcceptedBack}
use Rattle.sector_machine.specs.Invariant.{HoldsOfRows}
use Rattle.sector_machine.proofs.Lists.{All-from_members, member_joined, joined_member}
use Rattle.sector_machine.proofs.Units.{rows_unless_empty}
use Rattle.sector_machine.proofs.Rows.{back_are_rows, forward_row}
use Rattle.reduction_core.specs.declared.slots.Slot.{Slot}
use Rattle.reduction_core.specs.Slots.{by_unit, units_of, state_of, waiting_of, forward_of, back_of}
use Rattle.reduction_core.specs.Acceptance.{HasOrder, FitForward}
use Rattle.reduction_core.specs.Accepting.{back_part, IsClearAt, FitsBoard}
use Rattle.reduction_core.proofs.SlotLemmas.{get_listed, rows_of_slots}

-- ---- all back rows

pub all_back : (slots : List Slot) → Ascends (units_of slots) → back_rows (state_of slots) ≡ flat_map back_part slots
all_back slots ascend = rows_of_slots back_of slots ascend

module _ (slots : List Slot) (ascend : Ascends (units_of slots)) where
  pub back_member : (slot : Slot) (row : Row) → Contains slots slot → Contains (back_part slot) row → Contains (back_rows (state_of slots)) row
  back_member slot row member has = subst (λ rows. Contains rows row) (sym (all_back slots ascend)) (member_joined back_part slots slot row member has)

  pub member_back : (row : Row) → Contains (back_rows (state_of slots)) row → (slot : Slot) × Contains slots slot × Contains (back_part slot) row
  member_back row member = joined_member back_part slots row (subst (λ rows. Contains rows row) (all_back slots ascend) member)

  pub ordered_at : (order : Order) (slot : Slot) → Contains slots slot → All (HasOrder order) (back_rows (state_of slots)) → All (HasOrder order) (back_part slot)
  ordered_at order slot member ordered =
      All-from_members (HasOrder order) (back_part slot) (λ row has. All-contains (HasOrder order) (back_rows (state_of slots)) row ordered (back_member slot row member has))

  pub clear_everywhere : (order : Order) (rows : List Row) → All (IsClearAt order rows) slots → All (ShowsNoPivotOf order (back_rows (state_of slots))) rows
  clear_everywhere order rows clear =
      All-from_members (ShowsNoPivotOf order (back_rows (state_of slots))) rows
      (λ row has rule x is pivot.
      let (slot, member, own) = member_back rule is in
      All-contains (ShowsNoPivotOf order (back_part slot)) rows row (All-contains (IsClearAt order rows) slots slot clear member) has rule x own pivot)

  pub clear_each : (order : Order) (rows : List Row) → All (ShowsNoPivotOf order (back_rows (state_of slots))) rows → All (IsClearAt order rows) slots
  clear_each order rows clear =
      All-from_members (IsClearAt order rows) slots
      (λ slot member. All-from_members (ShowsNoPivotOf order (back_part slot)) rows
      (λ row has rule x own pivot. All-contains (ShowsNoPivotOf order (back_rows (state_of slots))) rows row clear has rule x (back_member slot rule member own) pivot))

  pub shown_everywhere : (x : Integral) → ((slot : Slot) × Contains slots slot × IsShownBySome (back_part slot) x) → IsShownBySome (back_rows (state_of slots)) x
  shown_everywhere x (slot, member, (row, has, shows)) = (row, back_member slot row member has, shows)

  pub shown_somewhere : (x : Integral) → IsShownBySome (back_rows (state_of slots)) x → (slot : Slot) × Contains slots slot × IsShownBySome (back_part slot) x
  shown_somewhere x (row, has, shows) = let (slot, member, own) = member_back row has in (slot, member, (row, own, shows))

pub shown_left : (rows others : List Row) (x : Integral) → IsShownBySome rows x → IsShownBySome (rows ++ others) x
shown_left rows others x (row, has, shows) = (row, Contains-append_left rows others row has, shows)

pub shown_right : (rows others : List Row) (x : Integral) → (¬ (IsShownBySome rows x)) → IsShownBySome (rows ++ others) x → IsShownBySome others x
shown_right rows others x none (row, has, shows) =
    elim (Contains-append_cases rows others row has) [
      | inl left ↦ absurd (none (row, left, shows))
      | inr right ↦ (row, right, shows)
    ]

pub shown_behind : (rows others : List Row) (x : Integral) → IsShownBySome others x → IsShownBySome (rows ++ others) x
shown_behind rows others x (row, has, shows) = (row, Contains-append_right rows others row has, shows)

-- ---- what a board's slots hold

module _ (p : ℕ) (order : Order) (equations : List Row) (slots : List Slot) (holds : HoldsOfRows p order equations (state_of slots)) where
  abbrev pub ascend_of : Ascends (units_of slots)
  ascend_of = holds.units.units.ascend

  pub back_ordered : All (HasOrder order) (back_rows (state_of slots))
  back_ordered k d within = (back_are_rows p order equations (state_of slots) holds k d within).ordered

  module _ (place : ℕ) (slot d : Slot) (within : place < length slots) (read : slot ≡ get_or slots place d) where
    listed : Contains slots slot
    listed = subst (Contains slots) (sym read) (Contains-get_or slots place d within)

    pub waiting_at : rows_at (by_unit waiting_of slots) slot.unit ≡ slot.waiting
    unfolding listed
    waiting_at = ap (λ o. unwrap_or o []) (get_listed waiting_of slots slot ascend_of listed) ∙ rows_unless_empty slot.waiting

    pub forward_at : rows_at (by_unit forward_of slots) slot.unit ≡ unwrap_or slot.forward []
    unfolding listed
    forward_at = ap (λ o. unwrap_or o []) (get_listed forward_of slots slot ascend_of listed)

    pub forward_ordered : All (HasOrder order) (rows_at (by_unit forward_of slots) slot.unit)
    forward_ordered = All-from_members (HasOrder order) (rows_at (by_unit forward_of slots) slot.unit) (λ row has. (forward_row p order equations (state_of slots) holds slot.unit row has).ordered)

-- ---- both halves

pub forward_joined_tests : (p : ℕ) (order : Order) (slots : List Slot) (unit : Unit) (rows rest : List Row) (b : Bool) → MayForward order unit (state_of slots) → (IsTrue b ↔ FitForward p order unit (rows_at (by_unit waiting_of slots) unit) rows rest) → IsTrue b ↔ IsAcceptedForward p order (state_of slots) unit rows rest
forward_joined_tests p order slots unit rows rest b may says = (
  λ yes. let fit = says.0 yes in record { may = may; rules = fit.rules; outside = fit.outside; nothing_new = fit.nothing_new },
  λ accepted. says.1 (record { rules = accepted.rules; outside = accepted.outside; nothing_new = accepted.nothing_new }),
)

pub back_joined_tests : (p : ℕ) (order : Order) (slots : List Slot) (unit : Unit) (rows : List Row) (b : Bool) → MayBack unit (state_of slots) → (IsTrue b ↔ FitsBoard p order (state_of slots) unit (rows_at (by_unit forward_of slots) unit) rows) → IsTrue b ↔ IsAcceptedBack p order (state_of slots) unit rows
back_joined_tests p order slots unit rows b may says = (
  λ yes. let fits = says.0 yes in record { may = may; rules = fits.fit.rules; pivots = fits.fit.pivots; clear = fits.clear; nothing_new = fits.nothing_new },
  λ accepted. says.1 (record { fit = record { rules = accepted.rules; pivots = accepted.pivots }; clear = accepted.clear; nothing_new = accepted.nothing_new }),
)
