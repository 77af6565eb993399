-- Until the state is done an event may happen for some unit, and then for none.
use Rattle.std.proofs.Common.{◌≡◌, ◌≢◌, ℕ, List, [], ◌∷◌, All, Contains, sym, ap, subst, ◌∙◌, ◌⊎◌, inl, inr}
use Rattle.std.proofs.lemmas.List.Elements.{All-contains, All-nil, All-cons}
use Rattle.std.specs.declared.cmp.Ordering.TheVariants.{Less}
use Rattle.std.proofs.lemmas.Cmp.{tied_itself}
use Rattle.integral_index.specs.Order.{unit_of, unit_compare}
use Rattle.integral_index.specs.declared.Unit.{Unit}
use Rattle.integral_index.specs.declared.Order.{Order}
use Rattle.integral_index.proofs.Orders.{unit_compare-total}
use Rattle.sparse_row.specs.Row.{Row}
use Rattle.sector_forward.specs.Elimination.{IsRuleOf}
use Rattle.sector_forward.proofs.Members.{Contains-cons_cases, Contains-here, Contains-there, AllPairs-head, AllPairs-tail}
use Rattle.sector_machine.specs.State.{State, RowsByUnit, Has, HasNone, rows_at}
use Rattle.sector_machine.specs.Machine.{Ascends, HasGreatestIn, MayForward, MayBack, IsDone}
use Rattle.sector_machine.specs.Invariant.{HoldsOfRows}
use Rattle.sector_machine.proofs.Units.{unit_cases, there_or_not}
use Rattle.sector_machine.proofs.Greatest.{shown_unit_less}
use Rattle.sector_machine.proofs.Rows.{waiting_taken}

-- ---- the first and the last unit that a map lacks

not_less_itself : (u v : Unit) → u ≡ v → unit_compare u v ≢ Less
not_less_itself u v same less = let tied = tied_itself unit_compare-total u in let turned = ap (unit_compare u) same in absurd (cc)

not_both_less : (u v : Unit) → unit_compare u v ≡ Less → unit_compare v u ≢ Less
not_both_less u v up down = let both = (unit_compare-total).trans u v u up down in let tied = tied_itself unit_compare-total u in absurd (cc)

module _ (m : RowsByUnit) where
  -- a unit that isn't there, while each lesser one is
  abbrev IsFirstWithout : List Unit → Unit → Type 0
  IsFirstWithout units u = Contains units u × HasNone m u × ((v : Unit) → Contains units v → unit_compare v u ≡ Less → Has m v)

  -- a unit that isn't there, while each greater one is
  abbrev IsLastWithout : List Unit → Unit → Type 0
  IsLastWithout units u = Contains units u × HasNone m u × ((v : Unit) → Contains units v → unit_compare u v ≡ Less → Has m v)

  first_without : (units : List Unit) → Ascends units → All (Has m) units ⊎ ((u : Unit) × IsFirstWithout units u)
  first_without [] ascend = inl (All-nil (Has m))
  first_without (u ∷ us) ascend =
      elim (there_or_not m u) [
        | inr none ↦ inr (
          u,
          (
            Contains-here u us,
            none,
            λ v member less.
                elim (Contains-cons_cases u us v member) [
                  | inl same ↦ absurd (not_less_itself v u (sym same) less)
                  | inr later ↦ absurd (not_both_less v u less (AllPairs-head (λ a b. unit_compare a b ≡ Less) u us v ascend later))
                ],
          ),
        )
        | inl has ↦
            elim (first_without us (AllPairs-tail (λ a b. unit_compare a b ≡ Less) u us ascend)) [
              | inl all ↦ inl (All-cons (Has m) u us has all)
              | inr (w, (listed, none, lesser)) ↦ inr (
                w,
                (
                  Contains-there u us w listed,
                  none,
                  λ v member less.
                      elim (Contains-cons_cases u us v member) [
                        | inl same ↦ subst (Has m) same has
                        | inr later ↦ lesser v later less
                      ],
                ),
              )
            ]
      ]

  last_without : (units : List Unit) → Ascends units → All (Has m) units ⊎ ((u : Unit) × IsLastWithout units u)
  last_without [] ascend = inl (All-nil (Has m))
  last_without (u ∷ us) ascend =
      elim (last_without us (AllPairs-tail (λ a b. unit_compare a b ≡ Less) u us ascend)) [
        | inr (w, (listed, none, greater)) ↦ inr (
          w,
          (
            Contains-there u us w listed,
            none,
            λ v member less.
                elim (Contains-cons_cases u us v member) [
                  | inl same ↦ absurd (not_both_less u w (AllPairs-head (λ a b. unit_compare a b ≡ Less) u us w ascend listed) (subst (λ z. unit_compare w z ≡ Less) (sym same) less))
                  | inr later ↦ greater v later less
                ],
          ),
        )
        | inl all ↦
            elim (there_or_not m u) [
              | inl has ↦ inl (All-cons (Has m) u us has all)
              | inr none ↦ inr (
                u,
                (
                  Contains-here u us,
                  none,
                  λ v member less.
                      elim (Contains-cons_cases u us v member) [
                        | inl same ↦ absurd (not_less_itself u v same less)
                        | inr later ↦ All-contains (Has m) us v all later
                      ],
                ),
              )
            ]
      ]

-- ---- a unit for which an event may happen

module _ (p : ℕ) (order : Order) (equations : List Row) (state : State) (holds : HoldsOfRows p order equations state) where
  -- the greatest unit without forward rows has nothing to wait for
  last_may_forward : (unit : Unit) → IsLastWithout state.forward state.units unit → MayForward order unit state
  last_may_forward unit (listed, none, greater) =
      record {
        listed = listed;
        new = none;
        alone = λ row x (other, member) shows of_unit.
            let top = (waiting_taken p order equations state holds other row member).greatest in
            elim (unit_cases other unit) [
              | inl same ↦ subst (λ u. HasGreatestIn order u row) same top
              | inr differ ↦
                  let g = top.0 in
                  let less = shown_unit_less order row g x top.1 shows (λ e. differ (sym top.2 ∙ sym e ∙ of_unit)) in
                  let above : unit_compare unit (unit_of g) ≡ Less = sym (ap (λ u. unit_compare u (unit_of g)) of_unit) ∙ less in
                  let own = holds.units.waiting row g (other, member) (top.1).shown in
                  absurd (greater (unit_of g) own above (holds.waiting.not_eliminated row g (other, member) (top.1).shown))
            ];
      }

  -- where all have forward rows, the least unit without back rows waits for nothing
  first_may_back : All (Has state.forward) state.units → (unit : Unit) → IsFirstWithout state.back state.units unit → MayBack unit state
  first_may_back all unit (listed, none, lesser) =
      record {
        eliminated = All-contains (Has state.forward) state.units unit all listed;
        new = none;
        lesser = λ row x member shows differ.
            let pivot = (All-contains (IsRuleOf p order unit) (rows_at state.forward unit) row (holds.forward unit).each member).pivot in
            let less = shown_unit_less order row pivot.0 x (pivot.1).is_greatest shows (λ e. differ (e ∙ pivot.2)) in
            lesser (unit_of x) (holds.units.forward row x (unit, member) shows) (ap (unit_compare (unit_of x)) (sym pivot.2) ∙ less);
      }

  pub something_is_ready : ¬ (IsDone state) → (unit : Unit) × (MayForward order unit state ⊎ MayBack unit state)
  something_is_ready unfinished =
      elim (last_without state.forward state.units holds.units.units.ascend) [
        | inr (unit, is) ↦ (unit, inl (last_may_forward unit is))
        | inl all ↦
            elim (first_without state.back state.units holds.units.units.ascend) [
              | inr (unit, is) ↦ (unit, inr (first_may_back all unit is))
              | inl done ↦ absurd (unfinished done)
            ]
      ]

  pub done_is_the_end : IsDone state → (unit : Unit) → ¬ (MayForward order unit state) × ¬ (MayBack unit state)
  done_is_the_end done unit = (
    λ may. holds.back.eliminated unit (All-contains (Has state.back) state.units unit done may.listed) may.new,
    λ may. All-contains (Has state.back) state.units unit done (holds.units.eliminated unit may.eliminated) may.new,
  )
