-- The slots after an event, as a state of the machine.
use Rattle.std.proofs.Common.{◌≡◌, ◌≢◌, ℕ, true, false, None, Some, Option, unwrap_or, List, [], ◌∷◌, ◌++◌, length, get_or, All, Contains, filter, refl, sym, ap, subst, ◌∙◌, inl, inr, arith}
use Rattle.std.specs.FinMap as finite
use Rattle.std.specs.List.{AllZip}
use Rattle.std.specs.Option.{option_map}
use Rattle.std.proofs.lemmas.Bool.{cases_eq}
use Rattle.std.proofs.lemmas.List.Elements.{All-contains}
use Rattle.integral_index.specs.declared.Order.{Order}
use Rattle.integral_index.specs.declared.Unit.{Unit}
use Rattle.integral_index.proofs.Orders.{unit_compare-total, unit_compare-IsAntisymmetric}
use Rattle.sparse_row.specs.Row.{Row, IsRow}
use Rattle.sector_forward.specs.Elimination.{IsOutside}
use Rattle.sector_forward.proofs.StepLemmas.{same_at}
use Rattle.sector_forward.proofs.Members.{Contains-cons_cases, Contains-here, Contains-there}
use Rattle.sector_machine.specs.State.{rows_at, unless_empty, has_greatest_in}
use Rattle.sector_machine.specs.Machine.{Ascends, IsAfterForward, IsAfterBack}
use Rattle.sector_machine.proofs.Lists.{Contains-none, none_kept}
use Rattle.sector_machine.proofs.Units.{unit_cases, get_inserted, get_others, no_rows, rows_unless_empty}
use Rattle.sector_machine.proofs.Greatest.{HasGreatestIn-from_test}
use Rattle.reduction_core.specs.declared.slots.Slot.{Slot}
use Rattle.reduction_core.specs.Slots.{with_rows, by_unit, units_of, state_of, waiting_of, forward_of, back_of, IsUnitAt, IsJoined, HaveListedUnits}
use Rattle.reduction_core.specs.Applying.{IsChangedAt, IsChangedFor, HasForward, HasBack, IsRestFor}
use Rattle.reduction_core.proofs.SlotLemmas.{get_listed, get_unlisted, listed_or_not, slot_of_unit, zip_at, zip_units, joined_units, one_place}

-- ---- slots beside slots

zip_member : {X Y : Type 0} (R : X → Y → Type 0) (xs : List X) (ys : List Y) (x : X) → AllZip R xs ys → Contains xs x → (y : Y) × Contains ys y × R x y
zip_member R [] ys x zip member = absurd (Contains-none x member)
zip_member R (z ∷ xs) [] x zip member = absurd zip
zip_member R (z ∷ xs) (y ∷ ys) x zip member =
    elim (Contains-cons_cases z xs x member) [
      | inl same ↦ (y, Contains-here y ys, subst (λ w. R w y) same zip.0)
      | inr later ↦ let found = zip_member R xs ys x zip.1 later in (found.0, Contains-there y ys found.0 found.1, found.2)
    ]

zip_weaker : {X Y : Type 0} (R S : X → Y → Type 0) (xs : List X) (ys : List Y) → ((x : X) (y : Y) → R x y → S x y) → AllZip R xs ys → AllZip S xs ys
zip_weaker R S [] [] more zip = tt
zip_weaker R S [] (y ∷ ys) more zip = absurd zip
zip_weaker R S (x ∷ xs) [] more zip = absurd zip
zip_weaker R S (x ∷ xs) (y ∷ ys) more zip = (more x y zip.0, zip_weaker R S xs ys more zip.1)

-- the change at the place of the unit is one for the unit
pub changed_for : (R : Slot → Slot → Type 0) → ((slot after : Slot) → R slot after → after.unit ≡ slot.unit) → (slots after : List Slot) (unit : Unit) (place : ℕ) → Ascends (units_of slots) → IsUnitAt slots unit place → IsChangedAt R place slots after → AllZip (IsChangedFor R unit) slots after
changed_for R same slots after unit place ascend at changed =
    zip_at (IsChangedFor R unit) slots after changed.0
    (λ k d e within.
    let len : length after ≡ length slots = changed.0 in
    let there : get_or after k e ≡ get_or after k d = same_at after k e d (omega arith) in
    subst (IsChangedFor R unit (get_or slots k d)) (sym there)
    (elim (cases_eq k place) [
      | inl here ↦
          let is_changed : R (get_or slots k d) (get_or after k d) = subst (λ n. R (get_or slots n d) (get_or after n d)) (sym here) (changed.2 d) in
          let of_unit : (get_or slots k d).unit ≡ unit = ap (λ n. (get_or slots n d).unit) here ∙ at.1 d in
          record { unit_same = same (get_or slots k d) (get_or after k d) is_changed; own = λ _. is_changed; other = λ differ. absurd (differ of_unit) }
      | inr elsewhere ↦
          let kept : get_or after k d ≡ get_or slots k d = changed.1 k d within elsewhere in
          record {
            unit_same = ap (λ s. s.unit) kept;
            own = λ of_unit. absurd (elsewhere (one_place slots k place d ascend within at.0 (of_unit ∙ sym (at.1 d))));
            other = λ _. kept;
          }
    ]))

pub changed_units : (R : Slot → Slot → Type 0) (unit : Unit) (slots after : List Slot) → AllZip (IsChangedFor R unit) slots after → units_of after ≡ units_of slots
changed_units R unit slots after zip = zip_units (IsChangedFor R unit) (λ slot next changed. changed.unit_same) slots after zip

-- ---- what the maps have

module _ (part : Slot → Option (List Row)) where
  -- the slots have the same lists
  abbrev pub IsSamePart : Slot → Slot → Type 0
  IsSamePart slot after = (after.unit ≡ slot.unit) × (part after ≡ part slot)

  pub same_part : (slots after : List Slot) → AllZip IsSamePart slots after → by_unit part after ≡ by_unit part slots
  same_part [] [] zip = refl
  same_part [] (a ∷ after) zip = absurd zip
  same_part (s ∷ slots) [] zip = absurd zip
  same_part (s ∷ slots) (a ∷ after) zip =
      let here = zip.0 in
      let rest = same_part slots after zip.1 in
      λ i. with_rows (rest i) (here.0 i) (here.1 i)

  module _ (R : Slot → Slot → Type 0) (unit : Unit) (slots after : List Slot) (ascend : Ascends (units_of slots)) (zip : AllZip (IsChangedFor R unit) slots after) where
    ascend_after : Ascends (units_of after)
    ascend_after = subst Ascends (sym (changed_units R unit slots after zip)) ascend

    -- the list of the unit's slot
    pub get_own : (value : Option (List Row)) → ((slot next : Slot) → R slot next → part next ≡ value) → Contains (units_of slots) unit → finite.get (by_unit part after) unit ≡ value
    unfolding ascend_after
    get_own value is listed =
        let found = slot_of_unit slots unit listed in
        let next = zip_member (IsChangedFor R unit) slots after found.0 zip found.1 in
        let changed : IsChangedFor R unit found.0 next.0 = next.2 in
        ap (finite.get (by_unit part after)) (sym (changed.unit_same ∙ found.2)) ∙ get_listed part after next.0 ascend_after next.1 ∙ is found.0 next.0 (changed.own found.2)

    -- and those of the others
    pub get_other : (other : Unit) → other ≢ unit → finite.get (by_unit part after) other ≡ finite.get (by_unit part slots) other
    unfolding ascend_after
    get_other other differ =
        elim (listed_or_not slots other) [
          | inl listed ↦
              let found = slot_of_unit slots other listed in
              let next = zip_member (IsChangedFor R unit) slots after found.0 zip found.1 in
              let changed : IsChangedFor R unit found.0 next.0 = next.2 in
              let kept : next.0 ≡ found.0 = changed.other (λ same. differ (sym found.2 ∙ same)) in
              let member : Contains after found.0 = subst (Contains after) kept next.1 in
              ap (finite.get (by_unit part after)) (sym found.2) ∙ get_listed part after found.0 ascend_after member
              ∙ sym (get_listed part slots found.0 ascend found.1) ∙ ap (finite.get (by_unit part slots)) found.2
          | inr unlisted ↦
              get_unlisted part after other (subst (λ units. ¬ (Contains units other)) (sym (changed_units R unit slots after zip)) unlisted)
              ∙ sym (get_unlisted part slots other unlisted)
        ]

    pub inserted_part : (rows : List Row) → ((slot next : Slot) → R slot next → part next ≡ Some rows) → Contains (units_of slots) unit → by_unit part after ≡ finite.insert (by_unit part slots) unit rows
    inserted_part rows is listed =
        finite.same_map unit_compare-total unit_compare-IsAntisymmetric (by_unit part after) (finite.insert (by_unit part slots) unit rows)
        (λ q. elim (unit_cases q unit) [
          | inl same ↦ ap (finite.get (by_unit part after)) same ∙ get_own (Some rows) is listed ∙ sym (get_inserted (by_unit part slots) unit rows) ∙ ap (finite.get (finite.insert (by_unit part slots) unit rows)) (sym same)
          | inr differ ↦ get_other q differ ∙ sym (get_others (by_unit part slots) unit rows q differ)
        ])

    pub kept_part : ((slot next : Slot) → R slot next → part next ≡ part slot) → by_unit part after ≡ by_unit part slots
    kept_part same =
        same_part slots after
        (zip_weaker (IsChangedFor R unit) IsSamePart slots after
        (λ slot next changed. (changed.unit_same, elim (unit_cases slot.unit unit) [ inl own ↦ same slot next (changed.own own) | inr differ ↦ ap part (changed.other differ) ]))
        zip)

-- ---- rows that join what waits

module _ (p : ℕ) (order : Order) (rest : List Row) (slots after : List Slot) (ascend : Ascends (units_of slots)) (rows : All (IsRow p order) rest) (listed : HaveListedUnits order (units_of slots) rest) (zip : AllZip (IsJoined order rest) slots after) where
  joined_ascend : Ascends (units_of after)
  joined_ascend = subst Ascends (sym (joined_units order rest slots after zip)) ascend

  pub waiting_joined : (unit : Unit) → finite.get (by_unit waiting_of after) unit ≡ unless_empty (rows_at (by_unit waiting_of slots) unit ++ filter (has_greatest_in order unit) rest)
  unfolding joined_ascend
  waiting_joined unit =
      elim (listed_or_not slots unit) [
        | inl there ↦
            let found = slot_of_unit slots unit there in
            let next = zip_member (IsJoined order rest) slots after found.0 zip found.1 in
            let slot = found.0 in
            let joined : IsJoined order rest slot next.0 = next.2 in
            let waits : rows_at (by_unit waiting_of slots) slot.unit ≡ slot.waiting = ap (λ o. unwrap_or o []) (get_listed waiting_of slots slot ascend found.1) ∙ rows_unless_empty slot.waiting in
            let is : finite.get (by_unit waiting_of after) next.0.unit ≡ unless_empty next.0.waiting = get_listed waiting_of after next.0 joined_ascend next.1 in
            subst (λ u. finite.get (by_unit waiting_of after) u ≡ unless_empty (rows_at (by_unit waiting_of slots) u ++ filter (has_greatest_in order u) rest)) found.2
            (ap (finite.get (by_unit waiting_of after)) (sym joined.unit) ∙ is ∙ ap unless_empty (joined.waiting ∙ ap (λ rs. rs ++ filter (has_greatest_in order slot.unit) rest) (sym waits)))
        | inr unlisted ↦
            let none : filter (has_greatest_in order unit) rest ≡ [] = none_kept (has_greatest_in order unit) rest
            (λ row member. elim (has_greatest_in order unit row) as (λ b. has_greatest_in order unit row ≡ b → b ≡ false) [
              | true ↦ λ e.
                  let top = HasGreatestIn-from_test p order unit row (All-contains (IsRow p order) rest row rows member) e in
                  absurd (unlisted (subst (Contains (units_of slots)) top.2 (listed row top.0 member top.1)))
              | false ↦ λ _. refl
            ] refl) in
            let empty : rows_at (by_unit waiting_of slots) unit ≡ [] = no_rows (by_unit waiting_of slots) unit (get_unlisted waiting_of slots unit unlisted) in
            get_unlisted waiting_of after unit (subst (λ units. ¬ (Contains units unit)) (sym (joined_units order rest slots after zip)) unlisted)
            ∙ sym (λ i. unless_empty (empty i ++ none i))
      ]

  pub forward_joined : by_unit forward_of after ≡ by_unit forward_of slots
  forward_joined =
      same_part forward_of slots after
      (zip_weaker (IsJoined order rest) (IsSamePart forward_of) slots after (λ slot next joined. (joined.unit, joined.forward)) zip)

  pub back_joined : by_unit back_of after ≡ by_unit back_of slots
  back_joined =
      same_part back_of slots after
      (zip_weaker (IsJoined order rest) (IsSamePart back_of) slots after (λ slot next joined. (joined.unit, ap (option_map (λ rows. rows.items)) joined.back)) zip)

-- ---- the events

outside_row : (p : ℕ) (order : Order) (unit : Unit) (rest : List Row) → All (IsOutside p order unit) rest → All (IsRow p order) rest
outside_row p order unit rest outside k d within = (outside k d within).is_row

none_of_rest : (p : ℕ) (order : Order) (unit : Unit) (rest : List Row) → All (IsOutside p order unit) rest → filter (has_greatest_in order unit) rest ≡ []
none_of_rest p order unit rest outside =
    none_kept (has_greatest_in order unit) rest
    (λ row member. elim (has_greatest_in order unit row) as (λ b. has_greatest_in order unit row ≡ b → b ≡ false) [
      | true ↦ λ e.
          let is = All-contains (IsOutside p order unit) rest row outside member in
          let top = HasGreatestIn-from_test p order unit row is.is_row e in
          absurd (is.none top.0 (top.1).shown top.2)
      | false ↦ λ _. refl
    ] refl)

pub is_after_forward : (order : Order) (unit : Unit) (rows rest : List Row) (slots middle after : List Slot) → Ascends (units_of slots) → Contains (units_of slots) unit → IsRestFor order unit (units_of slots) rest → AllZip (IsChangedFor (HasForward rows) unit) slots middle → AllZip (IsJoined order rest) middle after → IsAfterForward order unit rows rest (state_of slots) (state_of after)
is_after_forward order unit rows rest slots middle after ascend listed may changed joined =
    let same : units_of middle ≡ units_of slots = changed_units (HasForward rows) unit slots middle changed in
    let ascend_middle : Ascends (units_of middle) = subst Ascends (sym same) ascend in
    let listed_middle : HaveListedUnits order (units_of middle) rest = subst (λ units. HaveListedUnits order units rest) (sym same) may.listed in
    let are_rows = outside_row may.p order unit rest may.outside in
    let waiting = waiting_joined may.p order rest middle after ascend_middle are_rows listed_middle joined in
    let own : rows_at (by_unit waiting_of middle) unit ≡ [] =
    ap (λ o. unwrap_or o []) (get_own waiting_of (HasForward rows) unit slots middle ascend changed None (λ slot next has. ap unless_empty has.waiting) listed) in
    record {
      units = joined_units order rest middle after joined ∙ same;
      taken = waiting unit ∙ (λ i. unless_empty (own i ++ none_of_rest may.p order unit rest may.outside i));
      waiting = λ other differ.
          waiting other
          ∙ ap (λ o. unless_empty (unwrap_or o [] ++ filter (has_greatest_in order other) rest)) (get_other waiting_of (HasForward rows) unit slots middle ascend changed other differ);
      forward = forward_joined may.p order rest middle after ascend_middle are_rows listed_middle joined
          ∙ inserted_part forward_of (HasForward rows) unit slots middle ascend changed rows (λ slot next has. has.forward) listed;
      back = back_joined may.p order rest middle after ascend_middle are_rows listed_middle joined
          ∙ kept_part back_of (HasForward rows) unit slots middle ascend changed (λ slot next has. ap (option_map (λ rs. rs.items)) has.back);
    }

pub is_after_back : (unit : Unit) (rows : List Row) (slots after : List Slot) → Ascends (units_of slots) → Contains (units_of slots) unit → AllZip (IsChangedFor (HasBack rows) unit) slots after → IsAfterBack unit rows (state_of slots) (state_of after)
is_after_back unit rows slots after ascend listed changed =
    record {
      units = changed_units (HasBack rows) unit slots after changed;
      waiting = kept_part waiting_of (HasBack rows) unit slots after ascend changed (λ slot next has. ap unless_empty has.waiting);
      forward = kept_part forward_of (HasBack rows) unit slots after ascend changed (λ slot next has. has.forward);
      back = inserted_part back_of (HasBack rows) unit slots after ascend changed rows (λ slot next has. has.back) listed;
    }
