-- The units of rows, and the opening.
use Rattle.std.proofs.Common.{◌≡◌, ℕ, ◌+◌, ◌-◌, ◌<◌, ◌≤◌, List, [], ◌∷◌, ◌++◌, length, get_or, take, All, AllPairs, Contains, filter, refl, sym, ap, subst, ◌∙◌, inl, inr, arith}
use Rattle.std.specs.FinMap as finite
use Rattle.std.specs.List.{AllZip, insert}
use Rattle.std.specs.List.Sorted.{IsSorted, IsNonDecreasingBy, IsPartitionPoint}
use Rattle.std.specs.Ordering.{is_lt, ordering_index, ordering_reverse}
use Rattle.std.specs.declared.cmp.Ordering.TheVariants.{Less, Equal, Greater}
use Rattle.std.proofs.lemmas.Bool.{cases_lt, cases_order}
use Rattle.std.proofs.lemmas.Cmp.{tied_itself}
use Rattle.std.proofs.lemmas.List.{take_more}
use Rattle.std.proofs.lemmas.List.Elements.{All-contains, Contains-append_left, Contains-append_cases, Contains-push}
use Rattle.std.proofs.lemmas.List.Sorted.{IsPermutation-insert, IsPermutation-sym, Contains-permutation, searchable_from_sorted}
use Rattle.integral_index.specs.declared.Order.{Order}
use Rattle.integral_index.specs.declared.Unit.{Unit}
use Rattle.integral_index.specs.Integral.{Integral}
use Rattle.integral_index.specs.Order.{unit_of, unit_compare}
use Rattle.integral_index.proofs.Orders.{unit_compare-total, unit_compare-IsAntisymmetric}
use Rattle.sparse_row.specs.declared.Term.{Term}
use Rattle.sparse_row.specs.Row.{Row, coefficient, Shows, IsRow}
use Rattle.sparse_row.specs.Terms.{IsTermList, total_at}
use Rattle.sparse_row.proofs.RowValues.{total_at-place}
use Rattle.sparse_row.proofs.TermLists.{Descends-from_pairs}
use Rattle.sector_forward.proofs.Shown.{term_of_shown}
use Rattle.sector_forward.proofs.Members.{Contains-cons_cases, Contains-here, Contains-there}
use Rattle.sector_forward.proofs.StepLemmas.{same_at}
use Rattle.sector_forward.proofs.Taking.{AllPairs-insert}
use Rattle.sector_machine.specs.State.{rows_at, unless_empty, has_greatest_in}
use Rattle.std.specs.Option.{option_map}
use Rattle.sector_machine.specs.Machine.{Ascends, AreUnitsOf, Opens}
use Rattle.sector_machine.proofs.Lists.{Contains-none}
use Rattle.sector_machine.proofs.Units.{rows_of_nothing}
use Rattle.sector_machine.proofs.Greatest.{HasGreatestIn-from_test}
use Rattle.reduction_core.specs.declared.slots.Slot.{Slot}
use Rattle.reduction_core.specs.Slots.{with_rows, by_unit, units_of, state_of, waiting_of, forward_of, back_of, IsJoined, HaveListedUnits}
use Rattle.reduction_core.specs.Opening.{ShowsUnit, AreListed, IsEmptySlot}
use Rattle.reduction_core.proofs.SlotLemmas.{joined_units, joined_waiting}

-- ---- one unit more

units_sorted : (units : List Unit) → Ascends units → IsSorted unit_compare units
units_sorted units ascend k d low within =
    ap is_lt ((unit_compare-total).antisymm (get_or units (k + 1) d) (get_or units k d) ∙ ap ordering_reverse (ascend k (k + 1) d (omega arith) (omega arith)))

pub unit_there : (units : List Unit) (unit : Unit) (place : ℕ) → place < length units → ((d : Unit) → unit_compare (get_or units place d) unit ≡ Equal) → Ascends units → AreListed (λ other. unit ≡ other) units units
unit_there units unit place within equal ascend =
    let own : get_or units place unit ≡ unit = unit_compare-IsAntisymmetric (get_or units place unit) unit (equal unit) in
    let there : Contains units unit = (place, within, own) in
    record { ascend = ascend; kept = λ _ member. member; all = λ other same. subst (Contains units) same there; only = λ other member. inl member }

pub unit_is_listed : (units : List Unit) (unit : Unit) (place : ℕ) → place < length units → ((d : Unit) → unit_compare (get_or units place d) unit ≡ Equal) → Contains units unit
unit_is_listed units unit place within equal = (place, within, unit_compare-IsAntisymmetric (get_or units place unit) unit (equal unit))

pub unit_is_unlisted : (units : List Unit) (unit : Unit) (place : ℕ) → (IsNonDecreasingBy (λ u. ordering_index (unit_compare u unit)) units → IsPartitionPoint (λ u. unit_compare u unit ≡ Less) (λ u. unit_compare u unit ≡ Greater) units place) → Ascends units → ¬ (Contains units unit)
unit_is_unlisted units unit place parted ascend (k, within, at) =
    let parts = parted (searchable_from_sorted unit_compare-total (λ u. u) units unit (units_sorted units ascend)) in
    let tied : unit_compare (get_or units k unit) unit ≡ Equal = ap (λ u. unit_compare u unit) at ∙ tied_itself unit_compare-total unit in
    elim (cases_lt k place) [
      | inl before ↦ let less = parts.0 k unit (omega arith) before in absurd (cc)
      | inr after ↦ let greater = parts.1 k unit after within in absurd (cc)
    ]

pub unit_inserted : (units : List Unit) (unit : Unit) (place : ℕ) → place ≤ length units → (IsNonDecreasingBy (λ u. ordering_index (unit_compare u unit)) units → IsPartitionPoint (λ u. unit_compare u unit ≡ Less) (λ u. unit_compare u unit ≡ Greater) units place) → Ascends units → AreListed (λ other. unit ≡ other) units (insert units place unit)
unit_inserted units unit place within parted ascend =
    let parts = parted (searchable_from_sorted unit_compare-total (λ u. u) units unit (units_sorted units ascend)) in
    let moved = IsPermutation-insert units place unit in
    record {
      ascend = AllPairs-insert (λ u v. unit_compare u v ≡ Less) units place unit within ascend
          (λ k d before. parts.0 k d (omega arith) before)
          (λ k d after in_k. (unit_compare-total).antisymm unit (get_or units k d) ∙ ap ordering_reverse (parts.1 k d after in_k));
      kept = λ other member. Contains-permutation (unit ∷ units) (insert units place unit) other moved (Contains-there unit units other member);
      all = λ other same. subst (Contains (insert units place unit)) same (Contains-permutation (unit ∷ units) (insert units place unit) unit moved (Contains-here unit units));
      only = λ other member.
          elim (Contains-cons_cases unit units other (Contains-permutation (insert units place unit) (unit ∷ units) other (IsPermutation-sym (unit ∷ units) (insert units place unit) moved) member)) [
            | inl same ↦ inr same
            | inr old ↦ inl old
          ];
    }

-- ---- the units of a row

-- one of the first n terms is of the unit
abbrev pub IsOfTermBefore : List Term → ℕ → Unit → Type 0
IsOfTermBefore terms n unit = (k : ℕ) × (k < n) × ((d : Term) → unit_of (get_or terms k d).integral ≡ unit)

pub listed_none : (terms : List Term) (units : List Unit) → Ascends units → AreListed (IsOfTermBefore terms 0) units units
listed_none terms units ascend = record { ascend = ascend; kept = λ _ member. member; all = λ other (k, h, is). absurd (omega arith); only = λ other member. inl member }

pub listed_more : (terms : List Term) (n : ℕ) (term : Term) (unit : Unit) (units after next : List Unit) → n < length terms → term ≡ get_or terms n term → unit ≡ unit_of term.integral → AreListed (IsOfTermBefore terms n) units after → AreListed (λ other. unit ≡ other) after next → AreListed (IsOfTermBefore terms (n + 1)) units next
listed_more terms n term unit units after next within read is before one =
    let here : (d : Term) → unit_of (get_or terms n d).integral ≡ unit = λ d. ap (λ t. unit_of t.integral) (same_at terms n d term within ∙ sym read) ∙ sym is in
    record {
      ascend = one.ascend;
      kept = λ other member. one.kept other (before.kept other member);
      all = λ other (k, h, of_k).
          elim (cases_lt k n) [
            | inl old ↦ one.kept other (before.all other (k, old, of_k))
            | inr last ↦
                let same : n ≡ k = omega arith in
                one.all other (sym (here term) ∙ ap (λ m. unit_of (get_or terms m term).integral) same ∙ of_k term)
          ];
      only = λ other member.
          elim (one.only other member) [
            | inl old ↦ elim (before.only other old) [ inl first ↦ inl first | inr (k, h, of_k) ↦ inr (k, omega arith, of_k) ]
            | inr same ↦ inr (n, omega arith, λ d. here d ∙ same)
          ];
    }

pub listed_row : (order : Order) (terms : List Term) (row : Row) (n : ℕ) (units after : List Unit) → IsTermList order terms → ((x : Integral) → coefficient row x ≡ total_at x terms) → length terms ≤ n → n ≤ length terms → AreListed (IsOfTermBefore terms n) units after → AreListed (ShowsUnit row) units after
listed_row order terms row n units after list is low high before =
    record {
      ascend = before.ascend;
      kept = before.kept;
      all = λ other (x, shows, of_unit).
          let found = term_of_shown x terms (λ e. shows (is x ∙ e)) in
          before.all other (found.0, omega (arith, found.1), λ d. ap unit_of (found.2 d) ∙ of_unit);
      only = λ other member.
          elim (before.only other member) [
            | inl old ↦ inl old
            | inr (k, h, of_k) ↦
                let d : Term = record { integral = record { family = 0; indices = [] }; coefficient = 0 } in
                let x = (get_or terms k d).integral in
                inr (x, λ e. list.no_zero k d (omega arith) (sym (total_at-place order terms k d (omega arith) (Descends-from_pairs order terms list.descend)) ∙ sym (is x) ∙ e), of_k d)
          ];
    }

-- ---- the units of rows

pub no_units : AreUnitsOf [] []
no_units = record { ascend = λ i j d l h. absurd (omega arith); all = λ x (row, member, shows). absurd (Contains-none row member); only = λ unit member. absurd (Contains-none unit member) }

pub row_more : (rows : List Row) (row : Row) (units after : List Unit) → AreUnitsOf rows units → AreListed (ShowsUnit row) units after → AreUnitsOf (rows ++ row ∷ []) after
row_more rows row units after are more =
    record {
      ascend = more.ascend;
      all = λ x (other, member, shows).
          elim (Contains-append_cases rows (row ∷ []) other member) [
            | inl old ↦ more.kept (unit_of x) (are.all x (other, old, shows))
            | inr last ↦ more.all (unit_of x) (x, subst (λ r. Shows r x) (sym (elim (Contains-cons_cases row [] other last) [ inl same ↦ same | inr later ↦ absurd (Contains-none other later) ])) shows, refl)
          ];
      only = λ unit member.
          elim (more.only unit member) [
            | inl old ↦ let found = are.only unit old in (found.0, (found.1.0, Contains-append_left rows (row ∷ []) found.1.0 found.1.1, found.1.2), found.2)
            | inr (x, shows, of_unit) ↦ (x, (row, Contains-push rows row, shows), of_unit)
          ];
    }

pub units_more : (rows : List Row) (n : ℕ) (row : Row) (units after : List Unit) → n < length rows → row ≡ get_or rows n row → AreUnitsOf (take n rows) units → AreListed (ShowsUnit row) units after → AreUnitsOf (take (n + 1) rows) after
units_more rows n row units after within read are more =
    let longer : take (n + 1) rows ≡ take n rows ++ row ∷ [] = take_more rows n row within ∙ ap (λ r. take n rows ++ r ∷ []) (sym read) in
    subst (λ rs. AreUnitsOf rs after) (sym longer) (row_more (take n rows) row units after are more)

-- ---- the opening

pub empty_units : (units : List Unit) (slots : List Slot) → AllZip IsEmptySlot units slots → units_of slots ≡ units
empty_units [] [] zip = refl
empty_units [] (s ∷ slots) zip = absurd zip
empty_units (u ∷ units) [] zip = absurd zip
empty_units (u ∷ units) (s ∷ slots) zip =
    let here = (zip.0).unit_is in
    let rest = empty_units units slots zip.1 in
    λ i. here i ∷ rest i

nothing_waits : (units : List Unit) (slots : List Slot) → AllZip IsEmptySlot units slots → by_unit waiting_of slots ≡ finite.empty
nothing_waits [] [] zip = refl
nothing_waits [] (s ∷ slots) zip = absurd zip
nothing_waits (u ∷ units) [] zip = absurd zip
nothing_waits (u ∷ units) (s ∷ slots) zip = ap (λ rs. with_rows (by_unit waiting_of slots) s.unit (unless_empty rs)) (zip.0).waiting ∙ nothing_waits units slots zip.1

nothing_forward : (order : Order) (rows : List Row) (units : List Unit) (slots after : List Slot) → AllZip IsEmptySlot units slots → AllZip (IsJoined order rows) slots after → by_unit forward_of after ≡ finite.empty
nothing_forward order rows [] [] [] zip more = refl
nothing_forward order rows [] [] (a ∷ after) zip more = absurd more
nothing_forward order rows [] (s ∷ slots) after zip more = absurd zip
nothing_forward order rows (u ∷ units) [] after zip more = absurd zip
nothing_forward order rows (u ∷ units) (s ∷ slots) [] zip more = absurd more
nothing_forward order rows (u ∷ units) (s ∷ slots) (a ∷ after) zip more =
    ap (λ o. with_rows (by_unit forward_of after) a.unit o) ((more.0).forward ∙ (zip.0).forward) ∙ nothing_forward order rows units slots after zip.1 more.1

nothing_back : (order : Order) (rows : List Row) (units : List Unit) (slots after : List Slot) → AllZip IsEmptySlot units slots → AllZip (IsJoined order rows) slots after → by_unit back_of after ≡ finite.empty
nothing_back order rows [] [] [] zip more = refl
nothing_back order rows [] [] (a ∷ after) zip more = absurd more
nothing_back order rows [] (s ∷ slots) after zip more = absurd zip
nothing_back order rows (u ∷ units) [] after zip more = absurd zip
nothing_back order rows (u ∷ units) (s ∷ slots) [] zip more = absurd more
nothing_back order rows (u ∷ units) (s ∷ slots) (a ∷ after) zip more =
    ap (λ o. with_rows (by_unit back_of after) a.unit (option_map (λ rs. rs.items) o)) ((more.0).back ∙ (zip.0).back) ∙ nothing_back order rows units slots after zip.1 more.1

pub ascend_of_empty : (rows : List Row) (units : List Unit) (slots : List Slot) → AreUnitsOf rows units → AllZip IsEmptySlot units slots → Ascends (units_of slots)
ascend_of_empty rows units slots are zip = subst Ascends (sym (empty_units units slots zip)) are.ascend

pub listed_of_empty : (order : Order) (rows : List Row) (units : List Unit) (slots : List Slot) → AreUnitsOf rows units → AllZip IsEmptySlot units slots → HaveListedUnits order (units_of slots) rows
listed_of_empty order rows units slots are zip row x member top = subst (λ us. Contains us (unit_of x)) (sym (empty_units units slots zip)) (are.all x (row, member, top.shown))

pub Opens-made : (p : ℕ) (order : Order) (rows : List Row) (units : List Unit) (slots after : List Slot) → All (IsRow p order) rows → AreUnitsOf rows units → AllZip IsEmptySlot units slots → AllZip (IsJoined order rows) slots after → Opens p order rows (state_of after)
Opens-made p order rows units slots after are_rows are zip more =
    let same : units_of after ≡ units = joined_units order rows slots after more ∙ empty_units units slots zip in
    record {
      are_rows = are_rows;
      units = subst (AreUnitsOf rows) (sym same) are;
      waiting = λ unit.
          let none : rows_at (by_unit waiting_of slots) unit ≡ [] = ap (λ m. rows_at m unit) (nothing_waits units slots zip) ∙ rows_of_nothing unit in
          joined_waiting order rows slots after unit (ascend_of_empty rows units slots are zip) more
          (λ row member has.
          let top = HasGreatestIn-from_test p order unit row (All-contains (IsRow p order) rows row are_rows member) has in
          subst (Contains (units_of slots)) top.2 (listed_of_empty order rows units slots are zip row top.0 member top.1))
          ∙ ap (λ rs. unless_empty (rs ++ filter (has_greatest_in order unit) rows)) none;
      forward = nothing_forward order rows units slots after zip more;
      back = nothing_back order rows units slots after zip more;
    }

-- ---- one slot more

zip_push : (units : List Unit) (slots : List Slot) (unit : Unit) (slot : Slot) → AllZip IsEmptySlot units slots → IsEmptySlot unit slot → AllZip IsEmptySlot (units ++ unit ∷ []) (slots ++ slot ∷ [])
zip_push [] [] unit slot zip is = (is, tt)
zip_push [] (s ∷ slots) unit slot zip is = absurd zip
zip_push (u ∷ units) [] unit slot zip is = absurd zip
zip_push (u ∷ units) (s ∷ slots) unit slot zip is = (zip.0, zip_push units slots unit slot zip.1 is)

pub slots_more : (units : List Unit) (n : ℕ) (d : Unit) (slots : List Slot) (slot : Slot) → n < length units → AllZip IsEmptySlot (take n units) slots → IsEmptySlot (get_or units n d) slot → AllZip IsEmptySlot (take (n + 1) units) (slots ++ slot ∷ [])
slots_more units n d slots slot within zip is =
    subst (λ us. AllZip IsEmptySlot us (slots ++ slot ∷ [])) (sym (take_more units n d within)) (zip_push (take n units) slots (get_or units n d) slot zip is)
