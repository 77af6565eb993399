-- A run from the opening of the equations leaves their reduced list, and takes a step for each unit.
use Rattle.std.proofs.Common.{◌∙◌, subst, arith}
use Rattle.sector_forward.specs.Fault.{HasCause}
use Rattle.sector_machine.specs.Invariant.{Holds}
use Rattle.kira_app.specs.Run.{HasRun}
use Rattle.kira_app.specs.TopClauses.{IsReductionFault}
use Rattle.kira_app.proofs.Told.{of_error}
use Rattle.kira_app.proofs.Runs.{run_holds, opening_counts}
use Rattle.kira_app.proofs.TextOfTable.{solved_table, fault_status}
use Rattle.kira_app.proofs.reduction.reduced.Goals as goal

pub returns-in_err-run_alone-clause-cause : goal.returns-in_err-run_alone-clause-cause
returns-in_err-run_alone-clause-cause g c =
    of_error _ _ (IsReductionFault c.args.plan.now.modulus) c.from_residual-in_err-run_alone.ensures.1
    (fault_status c.args.plan.now.modulus _ (subst (λ p. HasCause p c.in_err-run_alone.field-0.0) c.modulus-2.ensures c.in_err-run_alone.ensures.cause))

pub returns-clause-solved : goal.returns-clause-solved
returns-clause-solved g c =
    let equations = c.in_ok-equations.equations.items in
    let opening = c.in_ok-board.board in
    let opened = c.in_ok-board.ensures in
    let after = c.run_alone.new.board in
    let ran = c.in_ok-run_alone.ensures in
    let found = c.in_ok-table.ensures in
    let run : HasRun opening after = record { events = ran.run.0; lead = ran.run.1; modulus = ran.modulus; order = ran.order } in
    let holds : Holds after.modulus after.order equations after.state =
    run_holds c.events_keep_the_invariant.ensures.run c.modulus.result c.order.result equations opening after opened.opens opened.modulus opened.order run in
    solved_table c.equations_are_unique.ensures c.args.plan.now equations c.in_ok-table.field-0 c.in_ok-equations.ensures.equations after.modulus after.order
    (ran.modulus ∙ opened.modulus ∙ c.modulus.ensures) (ran.order ∙ opened.order ∙ c.order.ensures)
    (found.reduced equations holds) (λ other h. found.only equations other holds h) found.modulus found.order

pub returns-clause-steps : goal.returns-clause-steps
returns-clause-steps g c =
    let equations = c.in_ok-equations.equations.items in
    let opening = c.in_ok-board.board in
    let opens = c.in_ok-board.ensures.opens in
    let taken = c.in_ok-run_alone.ensures.steps in
    let none = opening_counts c.events_are_counted.ensures.run c.modulus.result c.order.result equations opening.state opens in
    record {
      equations = equations;
      are = c.in_ok-equations.ensures.equations;
      units = opening.state.units;
      units_are = opens.units;
      taken = omega (arith, taken, none);
    }
