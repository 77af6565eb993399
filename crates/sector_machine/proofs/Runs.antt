-- Runs go on, and what they lead to is determined.
use Rattle.std.proofs.Common.{◌≡◌, ℕ, List, [], ◌∷◌, ◌++◌, Contains, refl, sym, subst, ◌∙◌, inl, inr}
use Rattle.std.specs.FinMap as map
use Rattle.std.specs.declared.cmp.Ordering.TheVariants.{Less}
use Rattle.std.proofs.lemmas.Cmp.{tied_itself}
use Rattle.integral_index.specs.Order.{unit_compare}
use Rattle.integral_index.specs.declared.Unit.{Unit}
use Rattle.integral_index.specs.declared.Order.{Order}
use Rattle.integral_index.proofs.Orders.{unit_compare-total, unit_compare-IsAntisymmetric}
use Rattle.sparse_row.specs.Row.{Row}
use Rattle.sector_forward.proofs.Members.{same_from_members}
use Rattle.sector_machine.specs.State.{State, RowsByUnit}
use Rattle.sector_machine.specs.Machine.{AreUnitsOf, Opens, IsAfterForward, IsAfterBack, Event, Leads, LeadOn, IsRun}
use Rattle.sector_machine.proofs.Units.{unit_cases}

pub leads_on_more : (p : ℕ) (order : Order) (events : List Event) (event : Event) (before state after : State) → LeadOn p order before events state → Leads p order event state after → LeadOn p order before (events ++ event ∷ []) after
leads_on_more p order [] event before state after same leads = (after, subst (λ s. Leads p order event s after) (sym same) leads, refl)
leads_on_more p order (first ∷ events) event before state after (next, led, on) leads = (next, led, leads_on_more p order events event next state after on leads)

pub runs_go_on : (p : ℕ) (order : Order) (equations : List Row) (events : List Event) (event : Event) (state after : State) → IsRun p order equations events state → Leads p order event state after → IsRun p order equations (events ++ event ∷ []) after
runs_go_on p order equations events event state after (opening, opens, on) leads = (opening, opens, leads_on_more p order events event opening state after on leads)

-- states with the same parts are the same
same_state : (state other : State) → state.units ≡ other.units → state.waiting ≡ other.waiting → state.forward ≡ other.forward → state.back ≡ other.back → state ≡ other
same_state state other units waiting forward back = λ i. record { units = units i; waiting = waiting i; forward = forward i; back = back i }

same_rows : (m n : RowsByUnit) → ((unit : Unit) → map.get m unit ≡ map.get n unit) → m ≡ n
same_rows m n same = map.same_map unit_compare-total unit_compare-IsAntisymmetric m n same

pub one_after_forward : (order : Order) (unit : Unit) (rows rest : List Row) (before after other : State) → IsAfterForward order unit rows rest before after → IsAfterForward order unit rows rest before other → after ≡ other
one_after_forward order unit rows rest before after other c d =
    same_state after other (c.units ∙ sym d.units)
    (same_rows after.waiting other.waiting (λ v.
    elim (unit_cases v unit) [
      | inl same ↦ subst (λ u. map.get after.waiting u ≡ map.get other.waiting u) (sym same) (c.taken ∙ sym d.taken)
      | inr differ ↦ c.waiting v differ ∙ sym (d.waiting v differ)
    ]))
    (c.forward ∙ sym d.forward) (c.back ∙ sym d.back)

pub one_after_back : (unit : Unit) (rows : List Row) (before after other : State) → IsAfterBack unit rows before after → IsAfterBack unit rows before other → after ≡ other
one_after_back unit rows before after other c d =
    same_state after other (c.units ∙ sym d.units) (c.waiting ∙ sym d.waiting) (c.forward ∙ sym d.forward) (c.back ∙ sym d.back)

pub one_state_after : (p : ℕ) (order : Order) (event : Event) (before after other : State) → Leads p order event before after → Leads p order event before other → after ≡ other
one_state_after p order (Event.Forward unit rows rest) before after other e f = one_after_forward order unit rows rest before after other e.change f.change
one_state_after p order (Event.Back unit rows) before after other e f = one_after_back unit rows before after other e.change f.change

-- the units of rows are one list
one_list_of_units : (rows : List Row) (units others : List Unit) → AreUnitsOf rows units → AreUnitsOf rows others → units ≡ others
one_list_of_units rows units others a b =
    same_from_members (λ unit. unit ≡ unit) (λ unit other. unit_compare unit other ≡ Less)
    (λ u v _ _ up down. let both = (unit_compare-total).trans u v u up down in let tied = tied_itself unit_compare-total u in absurd (cc))
    units others (λ k d h. refl) (λ k d h. refl) a.ascend b.ascend
    (λ unit member. let shown = a.only unit member in subst (Contains others) shown.2 (b.all shown.0 shown.1))
    (λ unit member. let shown = b.only unit member in subst (Contains units) shown.2 (a.all shown.0 shown.1))

pub one_opening : (p : ℕ) (order : Order) (equations : List Row) (state other : State) → Opens p order equations state → Opens p order equations other → state ≡ other
one_opening p order equations state other o q =
    same_state state other (one_list_of_units equations state.units other.units o.units q.units)
    (same_rows state.waiting other.waiting (λ unit. o.waiting unit ∙ sym (q.waiting unit)))
    (o.forward ∙ sym q.forward) (o.back ∙ sym q.back)
