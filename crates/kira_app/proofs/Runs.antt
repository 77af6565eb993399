-- The run of the board on one thread.
use Rattle.std.proofs.Common.{◌≡◌, inl, inr, Ok, Err, IfErr, Result, ℕ, ◌+◌, ◌-◌, ◌*◌, ◌<◌, List, [], ◌∷◌, ◌++◌, length, refl, sym, ap, subst, ◌∙◌, arith}
use Rattle.std.specs.Result.{IsErrAnd}
use Rattle.integral_index.specs.declared.Order.{Order}
use Rattle.sparse_row.specs.Row.{Row}
use Rattle.sector_forward.specs.declared.fault.ForwardFault.{ForwardFault}
use Rattle.sector_machine.specs.State.{State}
use Rattle.sector_machine.specs.Machine.{Event, Leads, LeadOn, IsDone, Opens, forward_count, back_count}
use Rattle.sector_machine.specs.Invariant.{HoldsOfRows, Holds}
use Rattle.sector_machine.specs.Laws.{ForwardIsCounted, BackIsCounted, CountsAreBounded, DoneIsCounted, RunsHold, RunsAreShort}
use Rattle.sector_machine.proofs.Runs.{leads_on_more}
use Rattle.reduction_core.specs.Board.{Board}
use Rattle.reduction_core.specs.declared.records.Record.{Record}
use Rattle.reduction_core.specs.declared.records.Record.TheVariants as record_of
use Rattle.reduction_core.specs.Records.{event_of, steps_of}
use Rattle.kira_app.specs.Run.{HasRun, HasRunOrWantsMemory, IsNext}

-- how many events of the state may come yet
abbrev pub left : State → ℕ
left state = 2 * length state.units - (forward_count state + back_count state)

-- the board stands after some events, and each of its steps gave a unit its forward rows
pub record HasAdvanced (before : Board) (steps : ℕ) (now : Board) (steps_now : ℕ) : Type 0 where
  pub run : HasRun before now
  pub units : now.state.units ≡ before.state.units
  pub counted : steps_now + forward_count before.state ≡ steps + forward_count now.state

pub advanced_none : (board : Board) (steps : ℕ) → HasAdvanced board steps board steps
advanced_none board steps = record { run = record { events = []; lead = refl; modulus = refl; order = refl }; units = refl; counted = refl }

module _ (forwards : ForwardIsCounted) (backs : BackIsCounted) where
  -- what one event counts
  event_counts : (p : ℕ) (order : Order) (equations : List Row) (entry : Record) (before after : State) → HoldsOfRows p order equations before → Leads p order (event_of entry) before after →
      (after.units ≡ before.units) × (forward_count after ≡ forward_count before + steps_of entry) × (forward_count after + back_count after ≡ forward_count before + back_count before + 1)
  event_counts p order equations (record_of.Forward unit rows rest) before after holds leads =
      let counts = forwards p order equations unit rows rest before after holds leads.may leads.change in
      let forward = counts.0 in
      let back = counts.1 in
      (leads.change.units, counts.0, omega (arith, forward, back))
  event_counts p order equations (record_of.Back unit rows) before after holds leads =
      let counts = backs p order equations unit rows before after holds leads.may leads.change in
      let forward = counts.0 in
      let back = counts.1 in
      (leads.change.units, omega (arith, forward), omega (arith, forward, back))

  pub advanced_more : (equations : List Row) (before now after : Board) (steps steps_now steps_after : ℕ) → HoldsOfRows now.modulus now.order equations now.state → HasAdvanced before steps now steps_now → IsNext now steps_now after steps_after → HasAdvanced before steps after steps_after
  advanced_more equations before now after steps steps_now steps_after holds so_far next =
      let counts = event_counts now.modulus now.order equations next.entry now.state after.state holds next.leads in
      let run = so_far.run in
      let leads : Leads before.modulus before.order (event_of next.entry) now.state after.state =
      subst (λ p. Leads p before.order (event_of next.entry) now.state after.state) run.modulus (subst (λ o. Leads now.modulus o (event_of next.entry) now.state after.state) run.order next.leads) in
      let taken = next.taken in
      let forward = counts.1 in
      let counted = so_far.counted in
      record {
        run = record {
          events = run.events ++ event_of next.entry ∷ [];
          lead = leads_on_more before.modulus before.order run.events (event_of next.entry) before.state now.state after.state run.lead leads;
          modulus = next.modulus ∙ run.modulus;
          order = next.order ∙ run.order;
        };
        units = counts.0 ∙ so_far.units;
        counted = omega (arith, taken, forward, counted);
      }

  -- and one less is left
  pub left_less : CountsAreBounded → (equations others : List Row) (now after : Board) (steps steps_after : ℕ) → HoldsOfRows now.modulus now.order equations now.state → HoldsOfRows after.modulus after.order others after.state → IsNext now steps after steps_after → left after.state < left now.state
  left_less bounded equations others now after steps steps_after holds holds_after next =
      let counts = event_counts now.modulus now.order equations next.entry now.state after.state holds next.leads in
      let bounds = bounded after.modulus after.order others after.state holds_after in
      let low = bounds.0 in
      let high = bounds.1 in
      let one = counts.2 in
      let same : length after.state.units ≡ length now.state.units = ap length counts.0 in
      omega (arith, low, high, one, same)

-- runs follow each other
lead_on_both : (p : ℕ) (order : Order) (events more : List Event) (before now after : State) → LeadOn p order before events now → LeadOn p order now more after → LeadOn p order before (events ++ more) after
lead_on_both p order [] more before now after same on = subst (λ s. LeadOn p order s more after) (sym same) on
lead_on_both p order (event ∷ events) more before now after (next, led, rest) on = (next, led, lead_on_both p order events more next now after rest on)

run_both : (before now after : Board) → HasRun before now → HasRun now after → HasRun before after
run_both before now after first second =
    record {
      events = first.events ++ second.events;
      lead = lead_on_both before.modulus before.order first.events second.events before.state now.state after.state first.lead
          (subst (λ p. LeadOn p before.order now.state second.events after.state) first.modulus (subst (λ o. LeadOn now.modulus o now.state second.events after.state) first.order second.lead));
      modulus = second.modulus ∙ first.modulus;
      order = second.order ∙ first.order;
    }

-- a run that stops after others
pub stopped_more : (before now after : Board) (r : Result (Unit {0}) ForwardFault) (f : ForwardFault) → IsErrAnd r (λ x. x ≡ f) → HasRun before now → HasRunOrWantsMemory now after f → IfErr r (HasRunOrWantsMemory before after)
stopped_more before now after (Ok u) f is run stopped = tt
stopped_more before now after (Err x) f is run (inl memory) = inl (is ∙ memory)
stopped_more before now after (Err x) f is run (inr more) = inr (run_both before now after run more)

-- where all is done, each unit has its forward rows
pub done_counts : CountsAreBounded → DoneIsCounted → (equations : List Row) (before now : Board) (steps steps_now : ℕ) → HoldsOfRows now.modulus now.order equations now.state → HasAdvanced before steps now steps_now → IsDone now.state → steps_now + forward_count before.state ≡ steps + length before.state.units
done_counts bounded counts equations before now steps steps_now holds so_far done =
    let bounds = bounded now.modulus now.order equations now.state holds in
    let low = bounds.0 in
    let high = bounds.1 in
    let all = (counts now.state).0 done in
    let counted = so_far.counted in
    let same : length now.state.units ≡ length before.state.units = ap length so_far.units in
    omega (arith, low, high, all, counted, same)

-- what a run from the opening of equations keeps
pub run_holds : RunsHold → (p : ℕ) (order : Order) (equations : List Row) (opening now : Board) → Opens p order equations opening.state → opening.modulus ≡ p → opening.order ≡ order → HasRun opening now → Holds now.modulus now.order equations now.state
run_holds law p order equations opening now opens is_p is_order run =
    let lead : LeadOn now.modulus now.order opening.state run.events now.state =
    subst (λ n. LeadOn n now.order opening.state run.events now.state) (sym run.modulus) (subst (λ o. LeadOn opening.modulus o opening.state run.events now.state) (sym run.order) run.lead) in
    let open_now : Opens now.modulus now.order equations opening.state =
    subst (λ n. Opens n now.order equations opening.state) (sym (run.modulus ∙ is_p)) (subst (λ o. Opens p o equations opening.state) (sym (run.order ∙ is_order)) opens) in
    law now.modulus now.order equations run.events now.state (opening.state, open_now, lead)

-- an opening has no forward rows yet
pub opening_counts : RunsAreShort → (p : ℕ) (order : Order) (equations : List Row) (opening : State) → Opens p order equations opening → forward_count opening ≡ 0
opening_counts law p order equations opening opens =
    let short = law p order equations [] opening (opening, opens, refl) in
    let none = short.0 in
    omega (arith, none)
