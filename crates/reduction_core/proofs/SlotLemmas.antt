-- The lists of rows by unit that the slots are.
use Rattle.std.proofs.Common.{◌≡◌, ◌≢◌, ℕ, ◌+◌, ◌<◌, true, false, cond, None, Some, Option, is_some, unwrap_or, suc, append-nil, append_assoc, List, [], ◌∷◌, ◌++◌, length, get_or, Contains, filter, take, count_by, flat_map, refl, sym, ap, subst, ◌∙◌, ◌⊎◌, inl, inr, arith}
use Rattle.std.specs.FinMap as finite
use Rattle.std.specs.List.{AllZip}
use Rattle.std.specs.List.Sorted.{IsSorted, IsNonDecreasingBy, IsPartitionPoint}
use Rattle.std.specs.Ordering.{is_lt, ordering_index, ordering_reverse}
use Rattle.std.specs.declared.cmp.Ordering.TheVariants.{Less, Equal, Greater}
use Rattle.std.proofs.lemmas.Bool.{cases_lt, cases_eq, cases_order}
use Rattle.std.proofs.lemmas.Cmp.{tied_itself}
use Rattle.std.proofs.lemmas.List.{get_or-map, length-map, take_more}
use Rattle.std.proofs.lemmas.List.Elements.{filter-append}
use Rattle.std.proofs.lemmas.List.Sums.{sum_by-cons}
use Rattle.std.proofs.lemmas.List.Sorted.{searchable_from_sorted}
use Rattle.integral_index.specs.declared.Order.{Order}
use Rattle.integral_index.specs.Integral.{Integral}
use Rattle.integral_index.specs.Order.{unit_compare, unit_of}
use Rattle.integral_index.specs.declared.Unit.{Unit}
use Rattle.integral_index.proofs.Orders.{unit_compare-total, unit_compare-IsAntisymmetric}
use Rattle.sparse_row.specs.Row.{Row, IsRow, IsEmpty, IsGreatest}
use Rattle.sparse_row.proofs.RowValues.{greatest_same}
use Rattle.sector_forward.proofs.StepLemmas.{same_at}
use Rattle.sector_forward.proofs.Members.{Contains-cons_cases, Contains-here, Contains-there, AllPairs-head, AllPairs-tail}
use Rattle.sector_machine.specs.State.{RowsByUnit, HasNone, rows_at, rows_of, unless_empty, has_greatest_in}
use Rattle.sector_machine.specs.Machine.{Ascends, HasGreatestIn}
use Rattle.sector_machine.proofs.Lists.{Contains-none, none_kept}
use Rattle.sector_machine.proofs.Greatest.{HasGreatestIn-from_test, test-from_HasGreatestIn}
use Rattle.sector_machine.proofs.Units.{unit_cases, less_differs, get_inserted, get_others, no_rows, rows_unless_empty}
use Rattle.reduction_core.specs.declared.slots.Slot.{Slot}
use Rattle.reduction_core.specs.Slots.{with_rows, by_unit, units_of, waiting_of, HasJoined, IsUnitAt, IsPushedAt, IsJoined}

-- ---- what the maps have

pub get_with : (m : RowsByUnit) (u v : Unit) (o : Option (List Row)) → v ≢ u → finite.get (with_rows m u o) v ≡ finite.get m v
get_with m u v None differ = refl
get_with m u v (Some rows) differ = get_others m u rows v differ

pub get_with_own : (m : RowsByUnit) (u : Unit) (o : Option (List Row)) → HasNone m u → finite.get (with_rows m u o) u ≡ o
get_with_own m u None none = none
get_with_own m u (Some rows) none = get_inserted m u rows

pub unit_listed : (slots : List Slot) (slot : Slot) → Contains slots slot → Contains (units_of slots) slot.unit
unit_listed [] slot member = absurd (Contains-none slot member)
unit_listed (s ∷ slots) slot member =
    elim (Contains-cons_cases s slots slot member) [
      | inl same ↦ subst (λ w. Contains (units_of (s ∷ slots)) w.unit) same (Contains-here s.unit (units_of slots))
      | inr later ↦ Contains-there s.unit (units_of slots) slot.unit (unit_listed slots slot later)
    ]

pub slot_of_unit : (slots : List Slot) (u : Unit) → Contains (units_of slots) u → (slot : Slot) × Contains slots slot × (slot.unit ≡ u)
slot_of_unit [] u member = absurd (Contains-none u member)
slot_of_unit (s ∷ slots) u member =
    elim (Contains-cons_cases s.unit (units_of slots) u member) [
      | inl same ↦ (s, Contains-here s slots, same)
      | inr later ↦ let found = slot_of_unit slots u later in (found.0, Contains-there s slots found.0 found.1, found.2)
    ]

pub listed_or_not : (slots : List Slot) (u : Unit) → Contains (units_of slots) u ⊎ (¬ (Contains (units_of slots) u))
listed_or_not [] u = inr (λ member. absurd (Contains-none u member))
listed_or_not (s ∷ slots) u =
    elim (unit_cases s.unit u) [
      | inl same ↦ inl (subst (Contains (units_of (s ∷ slots))) same (Contains-here s.unit (units_of slots)))
      | inr differ ↦
          elim (listed_or_not slots u) [
            | inl later ↦ inl (Contains-there s.unit (units_of slots) u later)
            | inr none ↦ inr (λ member. elim (Contains-cons_cases s.unit (units_of slots) u member) [ inl same ↦ absurd (differ same) | inr later ↦ absurd (none later) ])
          ]
    ]

pub head_unlisted : (s : Slot) (slots : List Slot) → Ascends (units_of (s ∷ slots)) → ¬ (Contains (units_of slots) s.unit)
head_unlisted s slots ascend member =
    less_differs s.unit s.unit (AllPairs-head (λ a b. unit_compare a b ≡ Less) s.unit (units_of slots) s.unit ascend member) refl

module _ (part : Slot → Option (List Row)) where
  pub get_unlisted : (slots : List Slot) (u : Unit) → ¬ (Contains (units_of slots) u) → finite.get (by_unit part slots) u ≡ None
  get_unlisted [] u none = finite.get-empty unit_compare u
  get_unlisted (s ∷ slots) u none =
      get_with (by_unit part slots) s.unit u (part s) (λ same. none (subst (Contains (units_of (s ∷ slots))) (sym same) (Contains-here s.unit (units_of slots))))
      ∙ get_unlisted slots u (λ member. none (Contains-there s.unit (units_of slots) u member))

  pub get_listed : (slots : List Slot) (slot : Slot) → Ascends (units_of slots) → Contains slots slot → finite.get (by_unit part slots) slot.unit ≡ part slot
  get_listed [] slot ascend member = absurd (Contains-none slot member)
  get_listed (s ∷ slots) slot ascend member =
      elim (Contains-cons_cases s slots slot member) [
        | inl same ↦
            subst (λ w. finite.get (by_unit part (s ∷ slots)) w.unit ≡ part w) same
            (get_with_own (by_unit part slots) s.unit (part s) (get_unlisted slots s.unit (head_unlisted s slots ascend)))
        | inr later ↦
            get_with (by_unit part slots) s.unit slot.unit (part s)
            (λ same. head_unlisted s slots ascend (subst (Contains (units_of slots)) same (unit_listed slots slot later)))
            ∙ get_listed slots slot (AllPairs-tail (λ a b. unit_compare a b ≡ Less) s.unit (units_of slots) ascend) later
      ]

  -- the rows of all units, slot by slot
  abbrev pub part_rows : Slot → List Row
  part_rows slot = unwrap_or (part slot) []

  rows_from : (m : RowsByUnit) (slots : List Slot) → ((slot : Slot) → Contains slots slot → finite.get m slot.unit ≡ part slot) → flat_map (rows_at m) (units_of slots) ≡ flat_map part_rows slots
  rows_from m [] each = refl
  rows_from m (s ∷ slots) each =
      let here : rows_at m s.unit ≡ part_rows s = ap (λ o. unwrap_or o []) (each s (Contains-here s slots)) in
      let rest = rows_from m slots (λ slot member. each slot (Contains-there s slots slot member)) in
      λ i. here i ++ rest i

  pub rows_of_slots : (slots : List Slot) → Ascends (units_of slots) → rows_of (units_of slots) (by_unit part slots) ≡ flat_map part_rows slots
  rows_of_slots slots ascend = rows_from (by_unit part slots) slots (λ slot member. get_listed slots slot ascend member)

  -- how many units the map has
  count_from : (m : RowsByUnit) (slots : List Slot) → ((slot : Slot) → Contains slots slot → finite.get m slot.unit ≡ part slot)
      → count_by (λ unit. finite.contains_key m unit) (units_of slots) ≡ count_by (λ slot. is_some (part slot)) slots
  count_from m [] each = refl
  count_from m (s ∷ slots) each =
      let here : finite.contains_key m s.unit ≡ is_some (part s) = ap is_some (each s (Contains-here s slots)) in
      let rest = count_from m slots (λ slot member. each slot (Contains-there s slots slot member)) in
      sum_by-cons (λ unit. cond (finite.contains_key m unit) 1 0) s.unit (units_of slots) ∙ (λ i. cond (here i) 1 0 + rest i)
      ∙ sym (sum_by-cons (λ slot. cond (is_some (part slot)) 1 0) s slots)

  pub count_of_slots : (slots : List Slot) → Ascends (units_of slots)
      → count_by (λ unit. finite.contains_key (by_unit part slots) unit) (units_of slots) ≡ count_by (λ slot. is_some (part slot)) slots
  count_of_slots slots ascend = count_from (by_unit part slots) slots (λ slot member. get_listed slots slot ascend member)

-- ---- looking a unit up

pub unit_at : (slots : List Slot) (k : ℕ) (d : Slot) → k < length slots → get_or (units_of slots) k d.unit ≡ (get_or slots k d).unit
unit_at slots k d within = get_or-map (λ slot. slot.unit) slots k d d.unit within

pub less_at : (slots : List Slot) (i j : ℕ) (d : Slot) → Ascends (units_of slots) → i < j → j < length slots → unit_compare (get_or slots i d).unit (get_or slots j d).unit ≡ Less
less_at slots i j d ascend less within =
    let len : length (units_of slots) ≡ length slots = length-map slots (λ slot. slot.unit) in
    subst (λ u. unit_compare u (get_or slots j d).unit ≡ Less) (unit_at slots i d (omega arith))
    (subst (λ u. unit_compare (get_or (units_of slots) i d.unit) u ≡ Less) (unit_at slots j d within) (ascend i j d.unit less (omega arith)))

pub slots_sorted : (slots : List Slot) → Ascends (units_of slots) → IsSorted (λ slot other. unit_compare slot.unit other.unit) slots
slots_sorted slots ascend k d low within =
    ap is_lt ((unit_compare-total).antisymm (get_or slots (k + 1) d).unit (get_or slots k d).unit
    ∙ ap ordering_reverse (less_at slots k (k + 1) d ascend (omega arith) within))

pub unit_found : (slots : List Slot) (unit : Unit) (place : ℕ) → place < length slots → ((d : Slot) → unit_compare (get_or slots place d).unit unit ≡ Equal) → IsUnitAt slots unit place
unit_found slots unit place within equal = (within, λ d. unit_compare-IsAntisymmetric (get_or slots place d).unit unit (equal d))

pub none_of_unit : (slots : List Slot) (unit : Unit) (place : ℕ) → Ascends (units_of slots) → (IsNonDecreasingBy (λ slot. ordering_index (unit_compare slot.unit unit)) slots → IsPartitionPoint (λ slot. unit_compare slot.unit unit ≡ Less) (λ slot. unit_compare slot.unit unit ≡ Greater) slots place) → ¬ (Contains (units_of slots) unit)
none_of_unit slots unit place ascend parted member =
    let found = slot_of_unit slots unit member in
    let slot = found.0 in
    let k = (found.1).0 in
    let parts = parted (searchable_from_sorted unit_compare-total (λ s. s.unit) slots unit (slots_sorted slots ascend)) in
    let at : get_or slots k slot ≡ slot = (found.1).2 in
    let tied : unit_compare (get_or slots k slot).unit unit ≡ Equal = ap (λ u. unit_compare u unit) (ap (λ s. s.unit) at ∙ found.2) ∙ tied_itself unit_compare-total unit in
    elim (cases_lt k place) [
      | inl before ↦ let less = parts.0 k slot (omega arith) before in absurd (cc)
      | inr after ↦ let greater = parts.1 k slot after (found.1).1 in absurd (cc)
    ]

-- a unit stands at one place
pub one_place : (slots : List Slot) (i j : ℕ) (d : Slot) → Ascends (units_of slots) → i < length slots → j < length slots → (get_or slots i d).unit ≡ (get_or slots j d).unit → i ≡ j
one_place slots i j d ascend in_i in_j same =
    elim (cases_order i j) [
      | inl equal ↦ equal
      | inr (inl before) ↦ absurd (less_differs (get_or slots i d).unit (get_or slots j d).unit (less_at slots i j d ascend before in_j) same)
      | inr (inr after) ↦ absurd (less_differs (get_or slots j d).unit (get_or slots i d).unit (less_at slots j i d ascend after in_i) (sym same))
    ]

-- ---- lists of rows, slot by slot

flat_push : {X Y : Type 0} (part : X → List Y) (xs : List X) (x : X) → flat_map part (xs ++ x ∷ []) ≡ flat_map part xs ++ part x
flat_push part [] x = append-nil (part x)
flat_push part (y ∷ ys) x = ap (λ zs. part y ++ zs) (flat_push part ys x) ∙ sym (append_assoc (part y) (flat_map part ys) (part x))

pub flat_more : {X Y : Type 0} (part : X → List Y) (xs : List X) (n : ℕ) (x : X) → n < length xs → x ≡ get_or xs n x → flat_map part (take (n + 1) xs) ≡ flat_map part (take n xs) ++ part x
flat_more part xs n x within read =
    ap (flat_map part) (take_more xs n x within) ∙ ap (λ y. flat_map part (take n xs ++ y ∷ [])) (sym read) ∙ flat_push part (take n xs) x

-- ---- slots to which rows were joined

pub zip_at : {X Y : Type 0} (R : X → Y → Type 0) (xs : List X) (ys : List Y) → length ys ≡ length xs → ((k : ℕ) (d : X) (e : Y) → k < length xs → R (get_or xs k d) (get_or ys k e)) → AllZip R xs ys
zip_at R [] [] len each = tt
zip_at R [] (y ∷ ys) len each = absurd (omega (arith, len))
zip_at R (x ∷ xs) [] len each = absurd (omega (arith, len))
zip_at R (x ∷ xs) (y ∷ ys) len each = (each 0 x y (omega arith), zip_at R xs ys (omega arith) (λ k d e h. each (suc k) d e (omega arith)))

pub zip_units : (R : Slot → Slot → Type 0) → ((slot after : Slot) → R slot after → after.unit ≡ slot.unit) → (slots after : List Slot) → AllZip R slots after → units_of after ≡ units_of slots
zip_units R same [] [] zip = refl
zip_units R same [] (a ∷ after) zip = absurd zip
zip_units R same (s ∷ slots) [] zip = absurd zip
zip_units R same (s ∷ slots) (a ∷ after) zip =
    let here = same s a zip.0 in
    let rest = zip_units R same slots after zip.1 in
    λ i. here i ∷ rest i

pub joined_units : (order : Order) (rows : List Row) (slots after : List Slot) → AllZip (IsJoined order rows) slots after → units_of after ≡ units_of slots
joined_units order rows slots after zip = zip_units (IsJoined order rows) (λ slot next joined. joined.unit) slots after zip

HasJoined-none : (slot : Slot) → HasJoined [] slot slot
HasJoined-none slot = record { unit = refl; waiting = sym (append-nil slot.waiting); forward = refl; back = refl }

pub joined_nothing : (order : Order) (rows : List Row) (slots : List Slot) → ((slot : Slot) → filter (has_greatest_in order slot.unit) rows ≡ []) → AllZip (IsJoined order rows) slots slots
joined_nothing order rows [] none = tt
joined_nothing order rows (s ∷ slots) none = (subst (λ rs. HasJoined rs s s) (sym (none s)) (HasJoined-none s), joined_nothing order rows slots none)

pub joined_more : (order : Order) (rows : List Row) (row : Row) (slots after next : List Slot) → AllZip (IsJoined order rows) slots after → AllZip (IsJoined order (row ∷ [])) after next → AllZip (IsJoined order (rows ++ row ∷ [])) slots next
joined_more order rows row [] [] [] zip more = tt
joined_more order rows row [] [] (n ∷ next) zip more = absurd more
joined_more order rows row [] (a ∷ after) next zip more = absurd zip
joined_more order rows row (s ∷ slots) [] next zip more = absurd zip
joined_more order rows row (s ∷ slots) (a ∷ after) [] zip more = absurd more
joined_more order rows row (s ∷ slots) (a ∷ after) (n ∷ next) zip more =
    let first = zip.0 in
    let last = more.0 in
    let own : filter (has_greatest_in order a.unit) (row ∷ []) ≡ filter (has_greatest_in order s.unit) (row ∷ []) = ap (λ u. filter (has_greatest_in order u) (row ∷ [])) first.unit in (
      record {
        unit = last.unit ∙ first.unit;
        waiting = last.waiting ∙ ap (λ rs. a.waiting ++ rs) own ∙ ap (λ rs. rs ++ filter (has_greatest_in order s.unit) (row ∷ [])) first.waiting
            ∙ append_assoc s.waiting (filter (has_greatest_in order s.unit) rows) (filter (has_greatest_in order s.unit) (row ∷ []))
            ∙ ap (λ rs. s.waiting ++ rs) (sym (filter-append (has_greatest_in order s.unit) rows (row ∷ [])));
        forward = last.forward ∙ first.forward;
        back = last.back ∙ first.back;
      },
      joined_more order rows row slots after next zip.1 more.1,
    )

-- ---- one row

none_in : (p : ℕ) (order own : Order) (row : Row) (unit : Unit) → IsRow p order row → ¬ (HasGreatestIn order unit row) → has_greatest_in order unit row ≡ false
none_in p order own row unit is none =
    elim (has_greatest_in order unit row) as (λ b. has_greatest_in order unit row ≡ b → b ≡ false) [
      | true ↦ λ e. absurd (none (HasGreatestIn-from_test p order unit row is e))
      | false ↦ λ _. refl
    ] refl

pub empty_joins_nothing : (p : ℕ) (order : Order) (row : Row) (slots : List Slot) → IsRow p order row → IsEmpty row → AllZip (IsJoined order (row ∷ [])) slots slots
empty_joins_nothing p order row slots is empty =
    joined_nothing order (row ∷ []) slots
    (λ slot. ap (λ b. cond b (row ∷ []) []) (none_in p order order row slot.unit is (λ top. (top.1).shown (empty top.0))))

pub row_joined : (p : ℕ) (order : Order) (row : Row) (x : Integral) (place : ℕ) (slots after : List Slot) → IsRow p order row → IsGreatest order row x → Ascends (units_of slots) → IsUnitAt slots (unit_of x) place → IsPushedAt place row slots after → AllZip (IsJoined order (row ∷ [])) slots after
row_joined p order row x place slots after is top ascend at pushed =
    zip_at (IsJoined order (row ∷ [])) slots after pushed.0
    (λ k d e within.
    let len : length after ≡ length slots = pushed.0 in
    let other : get_or after k e ≡ get_or after k d = same_at after k e d (omega arith) in
    subst (IsJoined order (row ∷ []) (get_or slots k d)) (sym other)
    (elim (cases_eq k place) [
      | inl same ↦
          let here : (get_or slots place d).unit ≡ unit_of x = at.1 d in
          let own : has_greatest_in order (get_or slots place d).unit row ≡ true = test-from_HasGreatestIn p order (get_or slots place d).unit row is (x, top, sym here) in
          let kept : filter (has_greatest_in order (get_or slots place d).unit) (row ∷ []) ≡ row ∷ [] = ap (λ b. cond b (row ∷ []) []) own in
          let there : IsJoined order (row ∷ []) (get_or slots place d) (get_or after place d) = subst (λ rs. HasJoined rs (get_or slots place d) (get_or after place d)) (sym kept) (pushed.2 d) in
          subst (λ n. IsJoined order (row ∷ []) (get_or slots n d) (get_or after n d)) (sym same) there
      | inr differ ↦
          let slot = get_or slots k d in
          let elsewhere : slot.unit ≢ unit_of x = λ same. differ (one_place slots k place d ascend within at.0 (same ∙ sym (at.1 d))) in
          let none : has_greatest_in order slot.unit row ≡ false = none_in p order order row slot.unit is (λ own. elsewhere (sym own.2 ∙ ap unit_of (greatest_same order row own.0 x own.1 top))) in
          let kept : filter (has_greatest_in order slot.unit) (row ∷ []) ≡ [] = ap (λ b. cond b (row ∷ []) []) none in
          subst (λ rs. HasJoined rs slot (get_or after k d)) (sym kept) (subst (HasJoined [] slot) (sym (pushed.1 k d within differ)) (HasJoined-none slot))
    ]))

pub Contains-one : (row other : Row) → Contains (row ∷ []) other → row ≡ other
Contains-one row other member = elim (Contains-cons_cases row [] other member) [ inl same ↦ same | inr later ↦ absurd (Contains-none other later) ]

-- ---- what waits after rows were joined

pub zip_member : {X Y : Type 0} (R : X → Y → Type 0) (xs : List X) (ys : List Y) (x : X) → AllZip R xs ys → Contains xs x → (y : Y) × Contains ys y × R x y
zip_member R [] ys x zip member = absurd (Contains-none x member)
zip_member R (z ∷ xs) [] x zip member = absurd zip
zip_member R (z ∷ xs) (y ∷ ys) x zip member =
    elim (Contains-cons_cases z xs x member) [
      | inl same ↦ (y, Contains-here y ys, subst (λ w. R w y) same zip.0)
      | inr later ↦ let found = zip_member R xs ys x zip.1 later in (found.0, Contains-there y ys found.0 found.1, found.2)
    ]

pub rows_at_slot : (slots : List Slot) (slot : Slot) → Ascends (units_of slots) → Contains slots slot → rows_at (by_unit waiting_of slots) slot.unit ≡ slot.waiting
rows_at_slot slots slot ascend member = ap (λ o. unwrap_or o []) (get_listed waiting_of slots slot ascend member) ∙ rows_unless_empty slot.waiting

pub joined_waiting : (order : Order) (rows : List Row) (slots after : List Slot) (u : Unit) → Ascends (units_of slots) → AllZip (IsJoined order rows) slots after → ((row : Row) → Contains rows row → has_greatest_in order u row ≡ true → Contains (units_of slots) u) → finite.get (by_unit waiting_of after) u ≡ unless_empty (rows_at (by_unit waiting_of slots) u ++ filter (has_greatest_in order u) rows)
joined_waiting order rows slots after u ascend zip listed =
    let same_units = joined_units order rows slots after zip in
    let ascend_after : Ascends (units_of after) = subst Ascends (sym same_units) ascend in
    elim (listed_or_not slots u) [
      | inl there ↦
          let found = slot_of_unit slots u there in
          let slot = found.0 in
          let partner = zip_member (IsJoined order rows) slots after slot zip found.1 in
          let next = partner.0 in
          let old : rows_at (by_unit waiting_of slots) u ≡ slot.waiting = ap (rows_at (by_unit waiting_of slots)) (sym found.2) ∙ rows_at_slot slots slot ascend found.1 in
          ap (finite.get (by_unit waiting_of after)) (sym (partner.2.unit ∙ found.2)) ∙ get_listed waiting_of after next ascend_after partner.1
          ∙ ap unless_empty (partner.2.waiting ∙ ap (λ v. slot.waiting ++ filter (has_greatest_in order v) rows) found.2 ∙ ap (λ rs. rs ++ filter (has_greatest_in order u) rows) (sym old))
      | inr none ↦
          let gone : filter (has_greatest_in order u) rows ≡ [] =
          none_kept (has_greatest_in order u) rows
          (λ row member.
          elim (has_greatest_in order u row) as (λ b. has_greatest_in order u row ≡ b → b ≡ false) [
            | true ↦ λ e. absurd (none (listed row member e))
            | false ↦ λ _. refl
          ] refl) in
          let before : rows_at (by_unit waiting_of slots) u ≡ [] = no_rows (by_unit waiting_of slots) u (get_unlisted waiting_of slots u none) in
          get_unlisted waiting_of after u (λ member. none (subst (λ us. Contains us u) same_units member))
          ∙ sym (ap (λ rs. unless_empty (rs ++ filter (has_greatest_in order u) rows)) before ∙ ap unless_empty gone)
    ]
