-- What a board keeps when a record is applied.
use Rattle.std.proofs.Common.{◌≡◌, ℕ, List, [], Option, None, Some, All, refl, sym, subst, arith}
use Rattle.std.specs.FinMap as finite
use Rattle.std.specs.Bool.{⊤}
use Rattle.std.specs.Option.{MatchOption}
use Rattle.std.proofs.lemmas.List.Elements.{Contains-append_right}
use Rattle.field_word.specs.Residues.{IsModulus}
use Rattle.integral_index.specs.declared.Order.{Order}
use Rattle.integral_index.specs.declared.Unit.{Unit}
use Rattle.integral_index.specs.Order.{unit_compare}
use Rattle.sparse_row.specs.Row.{Row}
use Rattle.sector_forward.specs.Elimination.{IsTaken, IsElimination}
use Rattle.back_substitute.specs.Substitution.{AreRules, AreBelow, IsSubstitution}
use Rattle.sector_machine.specs.State.{State, rows_at}
use Rattle.sector_machine.specs.Machine.{Opens, Leads, IsAfterBack}
use Rattle.sector_machine.specs.Tasks.{below_of}
use Rattle.sector_machine.specs.Accepted.{IsAcceptedForward, IsAcceptedBack}
use Rattle.sector_machine.specs.Invariant.{HoldsOfRows}
use Rattle.sector_machine.proofs.Opening.{opening_holds}
use Rattle.sector_machine.proofs.Rows.{waiting_shown_listed}
use Rattle.sector_machine.proofs.ForwardEvents.{forward_is_accepted, accepted_forward_keeps, elimination_accepted}
use Rattle.sector_machine.proofs.BackEvents.{back_is_accepted, accepted_back_keeps}
use Rattle.sector_machine.proofs.Serving.{substitution_serves, has_all_shown, are_below}
use Rattle.reduction_core.specs.declared.task.Work.{Work}
use Rattle.reduction_core.specs.declared.task.Work.TheVariants as work
use Rattle.reduction_core.specs.declared.records.Record.{Record}
use Rattle.reduction_core.specs.declared.records.Record.TheVariants.{Forward, Back}
use Rattle.reduction_core.specs.Slots.{state_of}
use Rattle.reduction_core.specs.Task.{Task, step_count, MeetsConditions, IsOutcome}
use Rattle.reduction_core.specs.Ready.{NoForward, NoBack, IsReady}
use Rattle.reduction_core.specs.KeptBoard.{IsBoard}
use Rattle.reduction_core.specs.Records.{event_of, IsAccepted, IsComputed, steps_of, Serves}
use Rattle.reduction_core.specs.Applying.{IsRestFor, IsAfter}
use Rattle.reduction_core.proofs.OpeningLemmas.{no_units}

-- a board without units is that of no equations
nothing_opens : (p : ℕ) (order : Order) → Opens p order [] (state_of [])
nothing_opens p order =
    record { are_rows = λ k d h. absurd (omega arith); units = no_units; waiting = λ unit. finite.get-empty unit_compare unit; forward = refl; back = refl }

pub board_of_nothing : (p : ℕ) (order : Order) → IsModulus p → IsBoard p order (state_of [])
board_of_nothing p order modulus =
    record { modulus = modulus; equations = []; holds = (opening_holds p order [] (state_of []) (nothing_opens p order)).rows }

-- the rest shows only what the taken rows show, so its units are listed
pub rest_fits : (p : ℕ) (order : Order) (equations : List Row) (unit : Unit) (rows rest : List Row) (state : State) → HoldsOfRows p order equations state → IsAcceptedForward p order state unit rows rest → IsRestFor order unit state.units rest
rest_fits p order equations unit rows rest state holds accepted =
    record {
      p = p;
      outside = accepted.outside;
      listed = λ row x member top. waiting_shown_listed p order equations state holds unit x (accepted.nothing_new row x (Contains-append_right rows rest row member) top.shown);
    }

pub board_after : (p : ℕ) (order : Order) (before after : State) (entry : Record) → IsBoard p order before → IsAccepted p order before entry → IsAfter order (event_of entry) before after → IsBoard p order after
board_after p order before after (Forward unit rows rest) board accepted change =
    record { modulus = board.modulus; equations = board.equations; holds = accepted_forward_keeps p order board.equations unit rows rest before after board.holds accepted change }
board_after p order before after (Back unit rows) board accepted change =
    record { modulus = board.modulus; equations = board.equations; holds = accepted_back_keeps p order board.equations unit rows before after board.holds accepted change }

-- ---- records that meet their events

pub leads_accepted : (p : ℕ) (order : Order) (before after : State) (entry : Record) → Leads p order (event_of entry) before after → IsAccepted p order before entry
leads_accepted p order before after (Forward unit rows rest) leads = forward_is_accepted p order unit rows rest before after leads
leads_accepted p order before after (Back unit rows) leads = back_is_accepted p order unit rows before after leads

pub computed_leads : (p : ℕ) (order : Order) (before after : State) (entry : Record) → IsBoard p order before → IsAccepted p order before entry → IsAfter order (event_of entry) before after → IsComputed p order before entry → Leads p order (event_of entry) before after
computed_leads p order before after (Forward unit rows rest) board accepted change computed = record { may = accepted.may; elimination = computed; change = change }
computed_leads p order before after (Back unit rows) board accepted change computed =
    substitution_serves p order board.equations unit before board.holds (below_of order before unit) rows after accepted.may (has_all_shown p order board.equations unit before board.holds) computed change

-- ---- the task in turn serves

module _ (p : ℕ) (order : Order) (state : State) (board : IsBoard p order state) (busy : List Unit) where
  -- the rows of the work meet the conditions of its computation
  meets_conditions : (w : Work) → IsReady order state busy w → MeetsConditions p order w
  meets_conditions (work.Forward unit rows) is = subst (All (IsTaken p order unit)) (sym is.1) (board.holds.waiting.grouped unit)
  meets_conditions (work.Back unit rows below) is = (
    subst (AreRules p order unit) (sym is.2) (board.holds.forward unit),
    subst (AreBelow p order unit) (sym is.3) (are_below p order board.equations unit state board.holds (is.1).may),
  )

  -- what is computed from them is accepted
  outcome_serves : (w : Work) (made : Record) → IsReady order state busy w → IsOutcome p order w made → IsAccepted p order state made × IsComputed p order state made × (steps_of made ≡ step_count w)
  outcome_serves (work.Forward unit taken) (Forward of_unit rows rest) is (same, made) =
      let elimination = subst (λ ts. IsElimination p order unit ts rows rest) is.1 made in
      subst (λ u. IsAcceptedForward p order state u rows rest × IsElimination p order u (rows_at state.waiting u) rows rest × (◌≡◌ {A = ℕ} 1 1)) (sym same)
      (elimination_accepted p order unit rows rest state (is.0).may elimination, elimination, refl)
  outcome_serves (work.Back unit input below) (Back of_unit rows) is (same, made) =
      let substitution = subst (λ bs. IsSubstitution p order unit (rows_at state.forward unit) bs rows) is.3 (subst (λ rs. IsSubstitution p order unit rs below rows) is.2 made) in
      let after : State = record { units = state.units; waiting = state.waiting; forward = state.forward; back = finite.insert state.back unit rows } in
      let change : IsAfterBack unit rows state after = record { units = refl; waiting = refl; forward = refl; back = refl } in
      let leads = substitution_serves p order board.equations unit state board.holds (below_of order state unit) rows after (is.1).may (has_all_shown p order board.equations unit state board.holds) substitution change in
      subst (λ u. IsAcceptedBack p order state u rows × IsSubstitution p order u (rows_at state.forward u) (below_of order state u) rows × (◌≡◌ {A = ℕ} 0 0)) (sym same)
      (back_is_accepted p order unit rows state after leads, substitution, refl)
  outcome_serves (work.Forward unit taken) (Back of_unit rows) is made = absurd made
  outcome_serves (work.Back unit input below) (Forward of_unit rows rest) is made = absurd made

  task_serves : (task : Task) → task.modulus ≡ p → IsReady order state busy task.work → Serves p order state task
  task_serves task same is made meets =
      let found = outcome_serves task.work made is (subst (λ n. IsOutcome n order task.work made) same (meets order (subst (λ n. MeetsConditions n order task.work) (sym same) (meets_conditions task.work is)))) in
      record { accepted = found.0; computed = found.1; steps = found.2 }

  pub turn_serves : (ready : Option Task) → MatchOption ready (NoForward order state busy × NoBack state busy) (λ task. (task.modulus ≡ p) × IsReady order state busy task.work) → MatchOption ready ⊤ (Serves p order state)
  turn_serves None none = tt
  turn_serves (Some task) is = task_serves task is.0 is.1
