-- Each event keeps the invariant, so each state that a run reaches has it.
use Rattle.std.proofs.Common.{ℕ, List, [], ◌∷◌, subst}
use Rattle.integral_index.specs.declared.Order.{Order}
use Rattle.sparse_row.specs.Row.{Row}
use Rattle.sector_machine.specs.State.{State}
use Rattle.sector_machine.specs.Machine.{Event, Leads, LeadOn, IsRun}
use Rattle.sector_machine.specs.Invariant.{HoldsOfRows, Holds}
use Rattle.sector_machine.proofs.Opening.{opening_holds}
use Rattle.sector_machine.proofs.ForwardEvents.{forward_is_accepted, accepted_forward_keeps, forward_keeps}
use Rattle.sector_machine.proofs.BackEvents.{back_is_accepted, accepted_back_keeps, back_keeps}

pub event_keeps : (p : ℕ) (order : Order) (equations : List Row) (event : Event) (before after : State) → Holds p order equations before → Leads p order event before after → Holds p order equations after
event_keeps p order equations (Event.Forward unit rows rest) before after holds leads = forward_keeps p order equations unit rows rest before after holds leads
event_keeps p order equations (Event.Back unit rows) before after holds leads = back_keeps p order equations unit rows before after holds leads

pub events_keep : (p : ℕ) (order : Order) (equations : List Row) (events : List Event) (before after : State) → Holds p order equations before → LeadOn p order before events after → Holds p order equations after
events_keep p order equations [] before after holds same = subst (Holds p order equations) same holds
events_keep p order equations (event ∷ events) before after holds (next, leads, on) =
    events_keep p order equations events next after (event_keeps p order equations event before next holds leads) on

pub run_holds : (p : ℕ) (order : Order) (equations : List Row) (events : List Event) (state : State) → IsRun p order equations events state → Holds p order equations state
run_holds p order equations events state (opening, opens, on) = events_keep p order equations events opening state (opening_holds p order equations opening opens) on

-- what holds of rows alone is kept by an event too
pub event_keeps_rows : (p : ℕ) (order : Order) (equations : List Row) (event : Event) (before after : State) → HoldsOfRows p order equations before → Leads p order event before after → HoldsOfRows p order equations after
event_keeps_rows p order equations (Event.Forward unit rows rest) before after holds leads =
    accepted_forward_keeps p order equations unit rows rest before after holds (forward_is_accepted p order unit rows rest before after leads) leads.change
event_keeps_rows p order equations (Event.Back unit rows) before after holds leads =
    accepted_back_keeps p order equations unit rows before after holds (back_is_accepted p order unit rows before after leads) leads.change
