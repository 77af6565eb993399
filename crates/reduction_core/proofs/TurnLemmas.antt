-- The tasks of a board.
use Rattle.std.proofs.Common.{◌≡◌, ◌↔◌, ℕ, ◌+◌, ◌<◌, Bool, true, false, IsTrue, cond, Option, None, Some, unwrap_or, List, [], ◌∷◌, ◌++◌, length, get_or, take, filter, flat_map, All, Contains, refl, sym, ap, subst, ◌∙◌, inl, inr, append-nil, append_assoc}
use Rattle.std.proofs.lemmas.List.Elements.{All-contains, filter-append, filter_more}
use Rattle.integral_index.specs.declared.Order.{Order}
use Rattle.integral_index.specs.declared.Unit.{Unit}
use Rattle.integral_index.specs.Integral.{Integral}
use Rattle.integral_index.specs.Order.{unit_of}
use Rattle.sparse_row.specs.Row.{Row, IsRow, IsEmpty, IsGreatest}
use Rattle.sparse_row.proofs.RowValues.{greatest_same}
use Rattle.sector_forward.specs.Elimination.{IsShownBySome, IsRuleOf}
use Rattle.back_substitute.specs.Substitution.{AreRules}
use Rattle.std.specs.Option.{MatchOption}
use Rattle.std.proofs.lemmas.Bool.{cases_eq}
use Rattle.sector_machine.specs.State.{State, rows_at}
use Rattle.sector_machine.specs.Machine.{IsDone, back_count}
use Rattle.sector_machine.specs.Tasks.{shows_pivot_of}
use Rattle.sector_machine.specs.Invariant.{HoldsOfRows}
use Rattle.sector_machine.proofs.Lists.{Contains-none, All-from_members, none_kept}
use Rattle.sector_machine.proofs.Counts.{done_is_counted}
use Rattle.sector_machine.proofs.Ready.{something_is_ready, done_is_the_end}
use Rattle.sector_machine.proofs.Rows.{row_of_rules}
use Rattle.sector_machine.proofs.Greatest.{shown_from_test, test-from_shown}
use Rattle.reduction_core.specs.declared.slots.Slot.{Slot}
use Rattle.reduction_core.specs.Slots.{by_unit, back_of, state_of}
use Rattle.reduction_core.specs.declared.task.Work.{Work}
use Rattle.reduction_core.specs.declared.task.Work.TheVariants.{Forward, Back}
use Rattle.reduction_core.specs.Task.{Task}
use Rattle.reduction_core.specs.Opening.{ShowUnit}
use Rattle.reduction_core.specs.Ready.{NoForward, NoBack, IsReady}
use Rattle.reduction_core.proofs.SlotLemmas.{part_rows, get_listed, flat_more}

pub shown_tested : (p : ℕ) (order own : Order) (rows : List Row) (rule : Row) (x : Integral) (b : Bool) → IsRow p order rule → own ≡ order → IsGreatest own rule x → (IsTrue b ↔ IsShownBySome rows x) → b ≡ shows_pivot_of order rows rule
shown_tested p order own rows rule x true is same top says = sym (test-from_shown p order rows rule x is (subst (λ o. IsGreatest o rule x) same top) (says.0 refl))
shown_tested p order own rows rule x false is same top says =
    elim (shows_pivot_of order rows rule) as (λ c. shows_pivot_of order rows rule ≡ c → false ≡ c) [
      | true ↦ λ e.
          let found = shown_from_test p order rows rule is e in
          let equal : found.0 ≡ x = greatest_same order rule found.0 x found.1 (subst (λ o. IsGreatest o rule x) same top) in
          says.1 (subst (IsShownBySome rows) equal found.2)
      | false ↦ λ _. refl
    ] refl

pub empty_shows_none : (p : ℕ) (order : Order) (rows : List Row) (rule : Row) → IsRow p order rule → IsEmpty rule → false ≡ shows_pivot_of order rows rule
empty_shows_none p order rows rule is empty =
    elim (shows_pivot_of order rows rule) as (λ c. shows_pivot_of order rows rule ≡ c → false ≡ c) [
      | true ↦ λ e. let found = shown_from_test p order rows rule is e in absurd ((found.1).shown (empty found.0))
      | false ↦ λ _. refl
    ] refl

-- the test keeps the next rule, or leaves it out
pub kept_more : (test : Row → Bool) (before made : List Row) (rules : List Row) (n : ℕ) (rule : Row) → n < length rules → rule ≡ get_or rules n rule → test rule ≡ true → made ≡ before ++ filter test (take n rules) → made ++ rule ∷ [] ≡ before ++ filter test (take (n + 1) rules)
kept_more test before made rules n rule within read passes is =
    let step : filter test (take (n + 1) rules) ≡ filter test (take n rules) ++ rule ∷ [] =
    filter_more test rules n rule within ∙ ap (λ r. filter test (take n rules) ++ cond (test r) (r ∷ []) []) (sym read) ∙ ap (λ b. filter test (take n rules) ++ cond b (rule ∷ []) []) passes in
    ap (λ rs. rs ++ rule ∷ []) is ∙ append_assoc before (filter test (take n rules)) (rule ∷ []) ∙ ap (λ rs. before ++ rs) (sym step)

pub left_more : (test : Row → Bool) (before made : List Row) (rules : List Row) (n : ℕ) (rule : Row) → n < length rules → rule ≡ get_or rules n rule → test rule ≡ false → made ≡ before ++ filter test (take n rules) → made ≡ before ++ filter test (take (n + 1) rules)
left_more test before made rules n rule within read fails is =
    let step : filter test (take (n + 1) rules) ≡ filter test (take n rules) =
    filter_more test rules n rule within ∙ ap (λ r. filter test (take n rules) ++ cond (test r) (r ∷ []) []) (sym read) ∙ ap (λ b. filter test (take n rules) ++ cond b (rule ∷ []) []) fails ∙ append-nil (filter test (take n rules)) in
    is ∙ ap (λ rs. before ++ rs) (sym step)

pub filter_flat_more : (test : Row → Bool) (slots : List Slot) (n : ℕ) (slot : Slot) (made rules : List Row) → n < length slots → slot ≡ get_or slots n slot → back_of slot ≡ Some rules → made ≡ filter test (flat_map (part_rows back_of) (take n slots)) → made ++ filter test rules ≡ filter test (flat_map (part_rows back_of) (take (n + 1) slots))
filter_flat_more test slots n slot made rules within read some is =
    sym (ap (filter test) (flat_more (part_rows back_of) slots n slot within read) ∙ filter-append test (flat_map (part_rows back_of) (take n slots)) (part_rows back_of slot)
    ∙ ap (λ rs. filter test (flat_map (part_rows back_of) (take n slots)) ++ filter test rs) (ap (λ o. unwrap_or o []) some) ∙ ap (λ rs. rs ++ filter test rules) (sym is))

-- a slot without a rule whose pivot is shown
pub filter_flat_left : (test : Row → Bool) (slots : List Slot) (n : ℕ) (slot : Slot) (made : List Row) → n < length slots → slot ≡ get_or slots n slot → filter test (part_rows back_of slot) ≡ [] → made ≡ filter test (flat_map (part_rows back_of) (take n slots)) → made ≡ filter test (flat_map (part_rows back_of) (take (n + 1) slots))
filter_flat_left test slots n slot made within read none is =
    sym (ap (filter test) (flat_more (part_rows back_of) slots n slot within read) ∙ filter-append test (flat_map (part_rows back_of) (take n slots)) (part_rows back_of slot)
    ∙ ap (λ rs. filter test (flat_map (part_rows back_of) (take n slots)) ++ rs) none ∙ append-nil (filter test (flat_map (part_rows back_of) (take n slots))) ∙ sym is)

pub filter_flat_none : (test : Row → Bool) (slots : List Slot) (n : ℕ) (slot : Slot) (made : List Row) → n < length slots → slot ≡ get_or slots n slot → back_of slot ≡ None → made ≡ filter test (flat_map (part_rows back_of) (take n slots)) → made ≡ filter test (flat_map (part_rows back_of) (take (n + 1) slots))
filter_flat_none test slots n slot made within read none is =
    is ∙ sym (ap (filter test) (flat_more (part_rows back_of) slots n slot within read ∙ ap (λ rs. flat_map (part_rows back_of) (take n slots) ++ rs) (ap (λ o. unwrap_or o []) none) ∙ append-nil (flat_map (part_rows back_of) (take n slots))))

-- ---- the rows of a slot

module _ (p : ℕ) (order : Order) (equations : List Row) (slots : List Slot) (place : ℕ) (slot : Slot) (holds : HoldsOfRows p order equations (state_of slots)) (within : place < length slots) (read : slot ≡ get_or slots place slot) where
  pub slot_rows : (part : Slot → Option (List Row)) → rows_at (by_unit part slots) slot.unit ≡ unwrap_or (part slot) []
  slot_rows part = ap (λ o. unwrap_or o []) (get_listed part slots slot holds.units.units.ascend (place, within, sym read))

  pub back_rules_are_rows : (rules : List Row) → back_of slot ≡ Some rules → All (IsRow p order) rules
  back_rules_are_rows rules some =
      let are : rows_at (by_unit back_of slots) slot.unit ≡ rules = slot_rows back_of ∙ ap (λ o. unwrap_or o []) some in
      subst (All (IsRow p order)) are
      (All-from_members (IsRow p order) (rows_at (by_unit back_of slots) slot.unit)
      (λ row member. row_of_rules p order slot.unit (rows_at (by_unit back_of slots) slot.unit) row (holds.back.rules slot.unit) member))

  -- a unit that the rows don't show has no rule whose pivot they show
  pub unshown_rules : (rows : List Row) → ¬ (ShowUnit rows slot.unit) → filter (shows_pivot_of order rows) (part_rows back_of slot) ≡ []
  unshown_rules rows unshown =
      let rules : AreRules p order slot.unit (part_rows back_of slot) = subst (AreRules p order slot.unit) (slot_rows back_of) (holds.back.rules slot.unit) in
      none_kept (shows_pivot_of order rows) (part_rows back_of slot) (λ rule member.
      let is : IsRuleOf p order slot.unit rule = All-contains (IsRuleOf p order slot.unit) (part_rows back_of slot) rule rules.each member in
      elim (shows_pivot_of order rows rule) as (λ b. shows_pivot_of order rows rule ≡ b → b ≡ false) [
        | true ↦ λ e.
            let found = shown_from_test p order rows rule is.is_row e in
            let same : (is.pivot).0 ≡ found.0 = greatest_same order rule (is.pivot).0 found.0 ((is.pivot).1).is_greatest found.1 in
            absurd (unshown (found.0, found.2, ap unit_of (sym same) ∙ (is.pivot).2))
        | false ↦ λ _. refl
      ] refl)

-- ---- nothing is ready where the state is done, and only there

module _ (p : ℕ) (order : Order) (equations : List Row) (state : State) (holds : HoldsOfRows p order equations state) (busy : List Unit) where
  ready_not_done : (work : Work) → IsReady order state busy work → IsDone state → ⊥
  ready_not_done (Forward unit rows) is done = (done_is_the_end p order equations state holds done unit).0 (is.0).may
  ready_not_done (Back unit rows below) is done = (done_is_the_end p order equations state holds done unit).1 (is.1).may

  none_done : busy ≡ [] → NoForward order state busy → NoBack state busy → IsDone state
  none_done empty no_forward no_back =
      let free : (unit : Unit) → ¬ (Contains busy unit) = λ unit member. Contains-none unit (subst (λ units. Contains units unit) empty member) in
      elim (cases_eq (back_count state) (length state.units)) [
        | inl all ↦ (done_is_counted state).1 all
        | inr some ↦
            let ready = something_is_ready p order equations state holds (λ done. some ((done_is_counted state).0 done)) in
            elim ready.1 [
              | inl forward ↦ absurd (no_forward ready.0 (free ready.0) forward)
              | inr back ↦ absurd (no_back ready.0 (free ready.0) back)
            ]
      ]

  pub none_where_done : (ready : Option Task) → MatchOption ready (NoForward order state busy × NoBack state busy) (λ task. (task.modulus ≡ p) × IsReady order state busy task.work) → busy ≡ [] → (ready ≡ None) ↔ IsDone state
  none_where_done None none empty = (λ _. none_done empty none.0 none.1, λ _. refl)
  none_where_done (Some task) is empty = (λ e. absurd (cc), λ done. absurd (ready_not_done task.work is.1 done))
