-- How many units have rows, and so how many events a run has.
use Rattle.std.proofs.Common.{◌≡◌, ◌≢◌, ℕ, ◌+◌, ◌≤◌, Bool, true, cond, Option, None, Some, is_some, List, [], ◌∷◌, length, Contains, count_by, ◌*◌, ◌↔◌, refl, sym, ap, ◌∙◌, inl, inr, arith}
use Rattle.std.proofs.lemmas.List.Elements.{All-contains}
use Rattle.std.specs.FinMap as map
use Rattle.std.specs.declared.cmp.Ordering.TheVariants.{Less}
use Rattle.std.proofs.lemmas.Bool.{cases_Bool, false≢true}
use Rattle.std.proofs.lemmas.List.Sums.{sum_by-cons, count_by-le-length}
use Rattle.integral_index.specs.Order.{unit_compare}
use Rattle.integral_index.specs.declared.Unit.{Unit}
use Rattle.integral_index.specs.declared.Order.{Order}
use Rattle.sparse_row.specs.Row.{Row}
use Rattle.sector_forward.proofs.Members.{Contains-cons_cases, Contains-here, Contains-there, AllPairs-head, AllPairs-tail}
use Rattle.sector_machine.specs.State.{State, RowsByUnit, Has, HasNone}
use Rattle.sector_machine.specs.Machine.{Ascends, MayForward, MayBack, IsAfterForward, IsAfterBack, Event, Leads, LeadOn, IsRun, IsDone, forward_count, back_count}
use Rattle.sector_machine.specs.Invariant.{HoldsOfRows}
use Rattle.sector_machine.proofs.Lists.{All-from_members}
use Rattle.sector_machine.proofs.Units.{unit_cases, less_differs, get_inserted, get_others}
use Rattle.sector_machine.proofs.Opening.{opening_holds}
use Rattle.sector_machine.proofs.Events.{events_keep, event_keeps_rows}

-- ---- counts of a list

-- what one member adds
abbrev weight : Bool → ℕ
weight b = cond b 1 0

module _ {X : Type 0} where
  count-cons : (test : X → Bool) (x : X) (xs : List X) → count_by test (x ∷ xs) ≡ weight (test x) + count_by test xs
  count-cons test x xs = sum_by-cons (λ y. weight (test y)) x xs

  count_agree : (test other : X → Bool) (xs : List X) → ((x : X) → Contains xs x → test x ≡ other x) → count_by test xs ≡ count_by other xs
  count_agree test other [] same = refl
  count_agree test other (x ∷ xs) same =
      let here = same x (Contains-here x xs) in
      let rest = count_agree test other xs (λ y member. same y (Contains-there x xs y member)) in
      count-cons test x xs ∙ (λ i. weight (here i) + rest i) ∙ sym (count-cons other x xs)

  count_less : (test other : X → Bool) (xs : List X) → ((x : X) → Contains xs x → test x ≡ true → other x ≡ true) → count_by test xs ≤ count_by other xs
  count_less test other [] more = omega arith
  count_less test other (x ∷ xs) more =
      let rest = count_less test other xs (λ y member. more y (Contains-there x xs y member)) in
      let one = count-cons test x xs in
      let two = count-cons other x xs in
      elim (cases_Bool (test x)) [
        | inl passes ↦
            let first : weight (test x) ≡ 1 = ap weight passes in
            let second : weight (other x) ≡ 1 = ap weight (more x (Contains-here x xs) passes) in
            omega arith
        | inr fails ↦ let first : weight (test x) ≡ 0 = ap weight fails in omega arith
      ]

  -- where all pass, the count is the length, and the other way round
  count_all : (test : X → Bool) (xs : List X) → ((x : X) → Contains xs x → test x ≡ true) → count_by test xs ≡ length xs
  count_all test [] each = refl
  count_all test (x ∷ xs) each =
      let one = count-cons test x xs in
      let first : weight (test x) ≡ 1 = ap weight (each x (Contains-here x xs)) in
      let rest = count_all test xs (λ y member. each y (Contains-there x xs y member)) in
      omega arith

  all_counted : (test : X → Bool) (xs : List X) → count_by test xs ≡ length xs → (x : X) → Contains xs x → test x ≡ true
  all_counted test [] whole x member = absurd (omega (arith, member.1))
  all_counted test (y ∷ ys) whole x member =
      let one = count-cons test y ys in
      let most = count_by-le-length test ys in
      elim (cases_Bool (test y)) [
        | inr fails ↦ let first : weight (test y) ≡ 0 = ap weight fails in absurd (omega arith)
        | inl passes ↦
            let first : weight (test y) ≡ 1 = ap weight passes in
            let rest : count_by test ys ≡ length ys = omega arith in
            elim (Contains-cons_cases y ys x member) [ inl same ↦ ap test (sym same) ∙ passes | inr later ↦ all_counted test ys rest x later ]
      ]

-- ---- counts of units

Has-from_key : (m : RowsByUnit) (u : Unit) → map.contains_key m u ≡ true → Has m u
Has-from_key m u key none = false≢true (sym (ap is_some none) ∙ key)

some_is : (o : Option (List Row)) → o ≢ None → is_some o ≡ true
some_is None some = absurd (some refl)
some_is (Some rows) some = refl

key_from_Has : (m : RowsByUnit) (u : Unit) → Has m u → map.contains_key m u ≡ true
key_from_Has m u has = some_is (map.get m u) has

-- a unit that wasn't there is one more
count_inserted : (units : List Unit) (m : RowsByUnit) (u : Unit) (rows : List Row) → Ascends units → Contains units u → HasNone m u → count_by (λ v. map.contains_key (map.insert m u rows) v) units ≡ count_by (λ v. map.contains_key m v) units + 1
count_inserted [] m u rows ascend listed none = absurd (omega (arith, listed.1))
count_inserted (v ∷ vs) m u rows ascend listed none =
    let before = count-cons (λ w. map.contains_key m w) v vs in
    let after = count-cons (λ w. map.contains_key (map.insert m u rows) w) v vs in
    elim (unit_cases v u) [
      | inl same ↦
          let old : weight (map.contains_key m v) ≡ 0 = ap (λ o. weight (is_some o)) (ap (map.get m) same ∙ none) in
          let new : weight (map.contains_key (map.insert m u rows) v) ≡ 1 = ap (λ o. weight (is_some o)) (ap (map.get (map.insert m u rows)) same ∙ get_inserted m u rows) in
          let rest = count_agree (λ w. map.contains_key (map.insert m u rows) w) (λ w. map.contains_key m w) vs
          (λ w member.
          let differ : w ≢ u = λ e. less_differs v w (AllPairs-head (λ a b. unit_compare a b ≡ Less) v vs w ascend member) (same ∙ sym e) in
          ap is_some (get_others m u rows w differ)) in
          omega arith
      | inr differ ↦
          let same : weight (map.contains_key (map.insert m u rows) v) ≡ weight (map.contains_key m v) = ap (λ o. weight (is_some o)) (get_others m u rows v differ) in
          let later : Contains vs u = elim (Contains-cons_cases v vs u listed) [ inl e ↦ absurd (differ e) | inr later ↦ later ] in
          let rest = count_inserted vs m u rows (AllPairs-tail (λ a b. unit_compare a b ≡ Less) v vs ascend) later none in
          omega arith
    ]

-- ---- counts of a state

pub forward_is_counted : (p : ℕ) (order : Order) (equations : List Row) (unit : Unit) (rows rest : List Row) (before after : State) → HoldsOfRows p order equations before → MayForward order unit before → IsAfterForward order unit rows rest before after → (forward_count after ≡ forward_count before + 1) × (back_count after ≡ back_count before)
forward_is_counted p order equations unit rows rest before after holds may c = (
  (λ i. count_by (λ v. map.contains_key (c.forward i) v) (c.units i)) ∙ count_inserted before.units before.forward unit rows holds.units.units.ascend may.listed may.new,
  λ i. count_by (λ v. map.contains_key (c.back i) v) (c.units i),
)

pub back_is_counted : (p : ℕ) (order : Order) (equations : List Row) (unit : Unit) (rows : List Row) (before after : State) → HoldsOfRows p order equations before → MayBack unit before → IsAfterBack unit rows before after → (forward_count after ≡ forward_count before) × (back_count after ≡ back_count before + 1)
back_is_counted p order equations unit rows before after holds may c = (
  λ i. count_by (λ v. map.contains_key (c.forward i) v) (c.units i),
  (λ i. count_by (λ v. map.contains_key (c.back i) v) (c.units i))
      ∙ count_inserted before.units before.back unit rows holds.units.units.ascend (holds.units.eliminated unit may.eliminated) may.new,
)

pub counts_are_bounded : (p : ℕ) (order : Order) (equations : List Row) (state : State) → HoldsOfRows p order equations state → (back_count state ≤ forward_count state) × (forward_count state ≤ length state.units)
counts_are_bounded p order equations state holds = (
  count_less (λ u. map.contains_key state.back u) (λ u. map.contains_key state.forward u) state.units
      (λ u member key. key_from_Has state.forward u (holds.back.eliminated u (Has-from_key state.back u key))),
  count_by-le-length (λ u. map.contains_key state.forward u) state.units,
)

pub done_is_counted : (state : State) → IsDone state ↔ (back_count state ≡ length state.units)
done_is_counted state = (
  λ done. count_all (λ u. map.contains_key state.back u) state.units (λ u member. key_from_Has state.back u (All-contains (Has state.back) state.units u done member)),
  λ whole. All-from_members (Has state.back) state.units (λ u member. Has-from_key state.back u (all_counted (λ v. map.contains_key state.back v) state.units whole u member)),
)

-- ---- runs

event_is_counted : (p : ℕ) (order : Order) (equations : List Row) (event : Event) (before after : State) → HoldsOfRows p order equations before → Leads p order event before after → forward_count after + back_count after ≡ forward_count before + back_count before + 1
event_is_counted p order equations (Event.Forward unit rows rest) before after holds leads =
    let counts = forward_is_counted p order equations unit rows rest before after holds leads.may leads.change in omega (arith, counts.0, counts.1)
event_is_counted p order equations (Event.Back unit rows) before after holds leads =
    let counts = back_is_counted p order equations unit rows before after holds leads.may leads.change in omega (arith, counts.0, counts.1)

events_are_counted : (p : ℕ) (order : Order) (equations : List Row) (events : List Event) (before after : State) → HoldsOfRows p order equations before → LeadOn p order before events after → forward_count after + back_count after ≡ forward_count before + back_count before + length events
events_are_counted p order equations [] before after holds same = let e : forward_count after + back_count after ≡ forward_count before + back_count before = ap (λ s. forward_count s + back_count s) (sym same) in omega arith
events_are_counted p order equations (event ∷ events) before after holds (next, leads, on) =
    let one = event_is_counted p order equations event before next holds leads in
    let rest = events_are_counted p order equations events next after (event_keeps_rows p order equations event before next holds leads) on in
    omega arith

none_counted : (m : RowsByUnit) (units : List Unit) → m ≡ map.empty → count_by (λ u. map.contains_key m u) units ≡ 0
none_counted m [] empty = refl
none_counted m (u ∷ us) empty =
    let one = count-cons (λ v. map.contains_key m v) u us in
    let first : weight (map.contains_key m u) ≡ 0 = ap (λ n. weight (is_some (map.get n u))) empty ∙ ap (λ o. weight (is_some o)) (map.get-empty unit_compare u) in
    let rest = none_counted m us empty in
    omega arith

pub runs_are_short : (p : ℕ) (order : Order) (equations : List Row) (events : List Event) (state : State) → IsRun p order equations events state → (length events ≡ forward_count state + back_count state) × (length events ≤ 2 * length state.units)
runs_are_short p order equations events state (opening, opens, on) =
    let holds = opening_holds p order equations opening opens in
    let counted = events_are_counted p order equations events opening state holds.rows on in
    let no_forward = none_counted opening.forward opening.units opens.forward in
    let no_back = none_counted opening.back opening.units opens.back in
    let bounds = counts_are_bounded p order equations state (events_keep p order equations events opening state holds on).rows in
    let whole : length events ≡ forward_count state + back_count state = omega (arith, counted, no_forward, no_back) in
    (whole, omega (arith, whole, bounds.0, bounds.1))
