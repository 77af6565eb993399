-- Which events may happen, slot by slot.
use Rattle.std.proofs.Common.{◌≡◌, ◌≢◌, ◌↔◌, ℕ, Bool, true, false, not, IsTrue, Option, is_some, ◌+◌, ◌<◌, ◌≤◌, None, Some, unwrap_or, List, [], length, get_or, All, Contains, refl, sym, ap, subst, ◌∙◌, inl, inr, arith}
use Rattle.std.specs.FinMap as finite
use Rattle.std.specs.Option.{option_map}
use Rattle.std.specs.declared.cmp.Ordering.TheVariants.{Less, Greater}
use Rattle.std.proofs.lemmas.Bool.{cases_lt, cases_order, false≢true}
use Rattle.std.proofs.lemmas.Cmp.{tied_itself}
use Rattle.std.proofs.lemmas.List.Elements.{All-contains, Contains-get_or}
use Rattle.integral_index.specs.declared.Order.{Order}
use Rattle.integral_index.specs.declared.Unit.{Unit}
use Rattle.integral_index.specs.Order.{unit_of, unit_compare}
use Rattle.integral_index.proofs.Orders.{unit_compare-total}
use Rattle.sparse_row.specs.Row.{Row}
use Rattle.sector_forward.proofs.StepLemmas.{same_at}
use Rattle.sector_machine.specs.State.{RowsByUnit, Has, rows_at}
use Rattle.sector_machine.specs.Machine.{Ascends, AreUnitsOf, HasGreatestIn, MayForward, MayBack}
use Rattle.sector_machine.proofs.Lists.{Contains-none, All-from_members}
use Rattle.sector_machine.proofs.Units.{unit_cases, no_rows}
use Rattle.sector_machine.proofs.Rows.{one_unit, waiting_taken}
use Rattle.reduction_core.specs.declared.slots.Slot.{Slot}
use Rattle.reduction_core.specs.Slots.{by_unit, units_of, waiting_of, forward_of, back_of, state_of, IsUnitAt}
use Rattle.reduction_core.specs.Opening.{ShowUnit}
use Rattle.reduction_core.specs.Ready.{NoForward, NoBack, IsForwardTurn, IsBackTurn, AreHeld, LeavesAlone, IsDoneAt, GoesForward, GoesBack}
use Rattle.reduction_core.proofs.SlotLemmas.{get_listed, get_unlisted, unit_listed, slot_of_unit, listed_or_not, less_at, rows_at_slot}

-- ---- tests of units

pub alone_tested : (unit : Unit) (slot : Slot) (b : Bool) → slot.unit ≢ unit → (IsTrue b ↔ ShowUnit slot.waiting unit) → IsTrue (not b) ↔ LeavesAlone unit slot
alone_tested unit slot true differ says = (λ e. absurd (false≢true e), λ alone. absurd (alone differ (says.0 refl)))
alone_tested unit slot false differ says = (λ _ _ shown. absurd (false≢true (says.1 shown)), λ _. refl)

pub done_tested : (back : RowsByUnit) (own unit : Unit) (b : Bool) → unit ≢ own → (IsTrue b ↔ Has back unit) → IsTrue b ↔ IsDoneAt back own unit
done_tested back own unit b differ says = (λ yes _. says.0 yes, λ done. says.1 (done differ))

-- ---- slots

abbrev pub at : List Slot → ℕ → Slot → Slot
at slots place d = get_or slots place d

pub held_ascend : (order : Order) (slots : List Slot) → AreHeld order slots → Ascends (units_of slots)
held_ascend order slots held = ((held.2).units).units.ascend

pub part_at : (part : Slot → Option (List Row)) (slots : List Slot) (place : ℕ) (d : Slot) → Ascends (units_of slots) → place < length slots → finite.get (by_unit part slots) (get_or slots place d).unit ≡ part (get_or slots place d)
part_at part slots place d ascend within = get_listed part slots (get_or slots place d) ascend (Contains-get_or slots place d within)

pub part_of_unit : (part : Slot → Option (List Row)) (slots : List Slot) (unit : Unit) (place : ℕ) (d : Slot) → Ascends (units_of slots) → IsUnitAt slots unit place → finite.get (by_unit part slots) unit ≡ part (get_or slots place d)
part_of_unit part slots unit place d ascend is = ap (finite.get (by_unit part slots)) (sym (is.1 d)) ∙ part_at part slots place d ascend is.0

has_some : (o : Option (List Row)) → (o ≢ None) ↔ (is_some o ≡ true)
has_some None = (λ h. absurd (h refl), λ e. absurd (false≢true e))
has_some (Some rows) = (λ _. refl, λ _ e. absurd (cc))

is_some-map : {X Y : Type 0} (f : X → Y) (o : Option X) → is_some (option_map f o) ≡ is_some o
is_some-map f None = refl
is_some-map f (Some x) = refl

pub has_back_at : (slots : List Slot) (unit : Unit) (place : ℕ) (slot : Slot) (b : Bool) → Ascends (units_of slots) → IsUnitAt slots unit place → slot ≡ get_or slots place slot → b ≡ is_some slot.back → IsTrue b ↔ Has (by_unit back_of slots) unit
has_back_at slots unit place slot b ascend is read tested =
    let got : finite.get (by_unit back_of slots) unit ≡ back_of slot = part_of_unit back_of slots unit place slot ascend is ∙ ap back_of (sym read) in
    let known : b ≡ is_some (back_of slot) = tested ∙ sym (is_some-map (λ rows. rows.items) slot.back) in (
      λ yes none. (has_some (back_of slot)).1 (sym known ∙ yes) (sym got ∙ none),
      λ has. known ∙ (has_some (back_of slot)).0 (λ none. has (got ∙ none)),
    )

pub has_back_not : (slots : List Slot) (unit : Unit) → ¬ (Contains (units_of slots) unit) → ¬ (Has (by_unit back_of slots) unit)
has_back_not slots unit none has = has (get_unlisted back_of slots unit none)

pub slot_waits : (slots : List Slot) (slot : Slot) (row : Row) → Ascends (units_of slots) → Contains slots slot → Contains slot.waiting row → Contains (rows_at (by_unit waiting_of slots) slot.unit) row
slot_waits slots slot row ascend member waits = subst (λ rows. Contains rows row) (sym (rows_at_slot slots slot ascend member)) waits

pub waits_in_slot : (slots : List Slot) (unit : Unit) (row : Row) → Ascends (units_of slots) → Contains (rows_at (by_unit waiting_of slots) unit) row → (slot : Slot) × Contains slots slot × Contains slot.waiting row
waits_in_slot slots unit row ascend member =
    elim (listed_or_not slots unit) [
      | inl there ↦
          let found = slot_of_unit slots unit there in (
            found.0,
            found.1,
            subst (λ rows. Contains rows row) (rows_at_slot slots found.0 ascend found.1) (subst (λ u. Contains (rows_at (by_unit waiting_of slots) u) row) (sym found.2) member),
          )
      | inr none ↦ absurd (Contains-none row (subst (λ rows. Contains rows row) (no_rows (by_unit waiting_of slots) unit (get_unlisted waiting_of slots unit none)) member))
    ]

module _ (order : Order) (slots : List Slot) (place : ℕ) (slot d : Slot) (held : AreHeld order slots) (within : place < length slots) (read : slot ≡ get_or slots place slot) where
  own : (get_or slots place d) ≡ slot
  own = same_at slots place d slot within ∙ sym read

  own_member : Contains slots slot
  own_member = (place, within, sym read)

  got : (part : Slot → Option (List Row)) → finite.get (by_unit part slots) slot.unit ≡ part slot
  got part = get_listed part slots slot (held_ascend order slots held) own_member

  pub may_forward_tested : (b : Bool) → slot.forward ≡ None → (IsTrue b ↔ All (LeavesAlone slot.unit) slots) → IsTrue b ↔ MayForward order (get_or slots place d).unit (state_of slots)
  may_forward_tested b none says =
      let ascend = held_ascend order slots held in
      let taken : (s : Slot) (row : Row) → Contains slots s → Contains s.waiting row → HasGreatestIn order s.unit row =
      λ s row member waits. (waiting_taken held.0 order held.1 (state_of slots) held.2 s.unit row (slot_waits slots s row ascend member waits)).greatest in
      subst (λ s. IsTrue b ↔ MayForward order s.unit (state_of slots)) (sym own) (
        λ yes.
            record {
              listed = unit_listed slots slot own_member;
              new = got forward_of ∙ none;
              alone = λ row x (unit, member) shows of_unit.
                  let found = waits_in_slot slots unit row ascend member in
                  let s = found.0 in
                  elim (unit_cases s.unit slot.unit) [
                    | inl same ↦ subst (λ u. HasGreatestIn order u row) same (taken s row found.1 found.2)
                    | inr differ ↦ absurd (All-contains (LeavesAlone slot.unit) slots s (says.0 yes) found.1 differ (x, (row, found.2, shows), of_unit))
                  ];
            },
        λ may.
            says.1
            (All-from_members (LeavesAlone slot.unit) slots
            (λ s member differ (x, (row, waits, shows), of_unit).
            differ (one_unit order row s.unit slot.unit (taken s row member waits) (may.alone row x (s.unit, slot_waits slots s row ascend member waits) shows of_unit)))),
      )

  pub may_forward_not : (rows : List Row) → forward_of slot ≡ Some rows → ¬ (MayForward order (get_or slots place d).unit (state_of slots))
  may_forward_not rows some may =
      let none : finite.get (by_unit forward_of slots) slot.unit ≡ None = subst (λ s. finite.get (by_unit forward_of slots) s.unit ≡ None) own may.new in
      let is = got forward_of in
      absurd (cc)

  pub may_back_tested : (b : Bool) (rows : List Row) (units : List Unit) → slot.forward ≡ Some rows → slot.back ≡ None → AreUnitsOf rows units → (IsTrue b ↔ All (IsDoneAt (by_unit back_of slots) slot.unit) units) → IsTrue b ↔ MayBack (get_or slots place d).unit (state_of slots)
  may_back_tested b rows units some none are_units says =
      let has : finite.get (by_unit forward_of slots) slot.unit ≡ Some rows = got forward_of ∙ some in
      let are : rows_at (by_unit forward_of slots) slot.unit ≡ rows = ap (λ o. unwrap_or o []) has in
      let Done = IsDoneAt (by_unit back_of slots) slot.unit in
      subst (λ s. IsTrue b ↔ MayBack s.unit (state_of slots)) (sym own) (
        λ yes.
            record {
              eliminated = λ e. absurd (cc);
              new = got back_of ∙ ap (option_map (λ rs. rs.items)) none;
              lesser = λ row x member shows. All-contains Done units (unit_of x) (says.0 yes) (are_units.all x (row, subst (λ rs. Contains rs row) are member, shows));
            },
        λ may.
            says.1
            (All-from_members Done units
            (λ other member.
            let (x, (row, is, shows), same) = are_units.only other member in
            subst Done same (may.lesser row x (subst (λ rs. Contains rs row) (sym are) is) shows))),
      )

  pub may_back_not_done : (rows : List Row) → back_of slot ≡ Some rows → ¬ (MayBack (get_or slots place d).unit (state_of slots))
  may_back_not_done rows some may =
      let none : finite.get (by_unit back_of slots) slot.unit ≡ None = subst (λ s. finite.get (by_unit back_of slots) s.unit ≡ None) own may.new in
      let is = got back_of in
      absurd (cc)

  pub may_back_not_yet : slot.forward ≡ None → ¬ (MayBack (get_or slots place d).unit (state_of slots))
  may_back_not_yet none may =
      let has : Has (by_unit forward_of slots) slot.unit = subst (λ s. Has (by_unit forward_of slots) s.unit) own may.eliminated in
      absurd (has (got forward_of ∙ none))

-- ---- turns

pub both_tested : (P Q : Type 0) (b : Bool) → P → (IsTrue b ↔ Q) → IsTrue b ↔ (P × Q)
both_tested P Q b first says = (λ yes. (first, says.0 yes), λ both. says.1 both.1)

abbrev pub NoneFrom : Order → List Slot → List Unit → ℕ → Type 0
NoneFrom order slots busy place = (k : ℕ) (d : Slot) → place ≤ k → k < length slots → ¬ (GoesForward order slots busy k d)

abbrev pub NoneBefore : List Slot → List Unit → ℕ → Type 0
NoneBefore slots busy place = (k : ℕ) (d : Slot) → k < place → ¬ (GoesBack slots busy k d)

pub none_from_more : (order : Order) (slots : List Slot) (busy : List Unit) (place : ℕ) → NoneFrom order slots busy (place + 1) → ((d : Slot) → ¬ (GoesForward order slots busy place d)) → NoneFrom order slots busy place
none_from_more order slots busy place above here k d low within =
    elim (cases_lt place k) [
      | inl more ↦ above k d (omega arith) within
      | inr last ↦ let same : place ≡ k = omega arith in subst (λ m. ¬ (GoesForward order slots busy m d)) same (here d)
    ]

pub none_before_more : (slots : List Slot) (busy : List Unit) (place : ℕ) → NoneBefore slots busy place → ((d : Slot) → ¬ (GoesBack slots busy place d)) → NoneBefore slots busy (place + 1)
none_before_more slots busy place below here k d within =
    elim (cases_lt k place) [
      | inl old ↦ below k d old
      | inr last ↦ let same : place ≡ k = omega arith in subst (λ m. ¬ (GoesBack slots busy m d)) same (here d)
    ]

-- the slot of a unit, and its place
place_of_listed : (slots : List Slot) (unit : Unit) → Contains (units_of slots) unit → (slot : Slot) × (k : ℕ) × (k < length slots) × ((get_or slots k slot).unit ≡ unit)
place_of_listed slots unit member =
    let found = slot_of_unit slots unit member in
    (found.0, (found.1).0, (found.1).1, ap (λ s. s.unit) (found.1).2 ∙ found.2)

pub no_forward : (order : Order) (slots : List Slot) (busy : List Unit) → NoneFrom order slots busy 0 → NoForward order (state_of slots) busy
no_forward order slots busy none unit free may =
    let (slot, k, within, same) = place_of_listed slots unit may.listed in
    none k slot (omega arith) within (subst (λ u. ¬ (Contains busy u)) (sym same) free, subst (λ u. MayForward order u (state_of slots)) (sym same) may)

pub is_forward_turn : (order : Order) (slots : List Slot) (busy : List Unit) (place : ℕ) (d : Slot) → AreHeld order slots → place < length slots → NoneFrom order slots busy (place + 1) → GoesForward order slots busy place d → IsForwardTurn order (state_of slots) busy (get_or slots place d).unit
is_forward_turn order slots busy place d held within above goes =
    record {
      free = goes.0;
      may = goes.1;
      greatest = λ other free may up.
          let (slot, k, in_k, same) = place_of_listed slots other may.listed in
          let same_d : (get_or slots k d).unit ≡ other = ap (λ s. s.unit) (same_at slots k d slot in_k) ∙ same in
          elim (cases_order k place) [
            | inl equal ↦
                let tied = tied_itself unit_compare-total (get_or slots place d).unit in
                let here : (get_or slots place d).unit ≡ other = ap (λ m. (get_or slots m d).unit) (sym equal) ∙ same_d in
                let turned : unit_compare (get_or slots place d).unit (get_or slots place d).unit ≡ Greater = subst (λ u. unit_compare u (get_or slots place d).unit ≡ Greater) (sym here) up in
                absurd (cc)
            | inr (inl before) ↦
                let less : unit_compare (get_or slots k d).unit (get_or slots place d).unit ≡ Less = less_at slots k place d (held_ascend order slots held) before within in
                let turned : unit_compare (get_or slots k d).unit (get_or slots place d).unit ≡ Greater = subst (λ u. unit_compare u (get_or slots place d).unit ≡ Greater) (sym same_d) up in
                absurd (cc)
            | inr (inr after) ↦
                above k d (omega arith) in_k (subst (λ u. ¬ (Contains busy u)) (sym same_d) free, subst (λ u. MayForward order u (state_of slots)) (sym same_d) may)
          ];
    }

back_listed : (order : Order) (slots : List Slot) (unit : Unit) → AreHeld order slots → MayBack unit (state_of slots) → Contains (units_of slots) unit
back_listed order slots unit held may = ((held.2).units).eliminated unit may.eliminated

pub no_back : (order : Order) (slots : List Slot) (busy : List Unit) (n : ℕ) → AreHeld order slots → length slots ≤ n → NoneBefore slots busy n → NoBack (state_of slots) busy
no_back order slots busy n held low none unit free may =
    let (slot, k, within, same) = place_of_listed slots unit (back_listed order slots unit held may) in
    none k slot (omega arith) (subst (λ u. ¬ (Contains busy u)) (sym same) free, subst (λ u. MayBack u (state_of slots)) (sym same) may)

pub is_back_turn : (order : Order) (slots : List Slot) (busy : List Unit) (place : ℕ) (d : Slot) → AreHeld order slots → place < length slots → NoneBefore slots busy place → GoesBack slots busy place d → IsBackTurn (state_of slots) busy (get_or slots place d).unit
is_back_turn order slots busy place d held within below goes =
    record {
      free = goes.0;
      may = goes.1;
      least = λ other free may down.
          let (slot, k, in_k, same) = place_of_listed slots other (back_listed order slots other held may) in
          let same_d : (get_or slots k d).unit ≡ other = ap (λ s. s.unit) (same_at slots k d slot in_k) ∙ same in
          elim (cases_order k place) [
            | inl equal ↦
                let tied = tied_itself unit_compare-total (get_or slots place d).unit in
                let here : (get_or slots place d).unit ≡ other = ap (λ m. (get_or slots m d).unit) (sym equal) ∙ same_d in
                let turned : unit_compare (get_or slots place d).unit (get_or slots place d).unit ≡ Less = subst (λ u. unit_compare u (get_or slots place d).unit ≡ Less) (sym here) down in
                absurd (cc)
            | inr (inl before) ↦
                below k d before (subst (λ u. ¬ (Contains busy u)) (sym same_d) free, subst (λ u. MayBack u (state_of slots)) (sym same_d) may)
            | inr (inr after) ↦
                let less : unit_compare (get_or slots place d).unit (get_or slots k d).unit ≡ Less = less_at slots place k d (held_ascend order slots held) after in_k in
                let turned : unit_compare (get_or slots k d).unit (get_or slots place d).unit ≡ Less = subst (λ u. unit_compare u (get_or slots place d).unit ≡ Less) (sym same_d) down in
                let both = (unit_compare-total).trans (get_or slots place d).unit (get_or slots k d).unit (get_or slots place d).unit less turned in
                let tied = tied_itself unit_compare-total (get_or slots place d).unit in
                absurd (cc)
          ];
    }
