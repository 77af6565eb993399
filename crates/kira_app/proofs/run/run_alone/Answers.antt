-- Each turn is an event more, and the last leaves the board done.
use Rattle.std.proofs.Common.{refl, ◌∙◌}
use Rattle.kira_app.proofs.Runs.{advanced_more, left_less, stopped_more, done_counts}
use Rattle.kira_app.proofs.run.run_alone.Goals as goal

pub returns-in_err-take_turn-clause-stopped : goal.returns-in_err-take_turn-clause-stopped
returns-in_err-take_turn-clause-stopped g c =
    stopped_more c.args.board.now c.loop-task.board c.take_turn.new.board _ _ c.from_residual-in_err-take_turn.ensures.1 c.loop-task.invariant.0.run c.in_err-take_turn.ensures.stopped

pub returns-in_err-take_turn-clause-modulus : goal.returns-in_err-take_turn-clause-modulus
returns-in_err-take_turn-clause-modulus g c = c.take_turn.ensures.modulus ∙ c.loop-task.invariant.0.run.modulus

pub returns-in_err-take_turn-clause-order : goal.returns-in_err-take_turn-clause-order
returns-in_err-take_turn-clause-order g c = c.take_turn.ensures.order ∙ c.loop-task.invariant.0.run.order

pub loop-task-smaller : goal.loop-task-smaller
loop-task-smaller g c =
    let law = c.events_are_counted.ensures in
    let held = c.loop-task.invariant.1 in
    let holds = c.holds-in-Some.ensures in
    left_less law.forward law.back law.bounds held.0 holds.0 c.loop-task.board c.take_turn.new.board c.loop-task.steps c.take_turn.new.steps held.1 holds.1 c.in_ok-take_turn.ensures.next

pub loop-task-preserved : goal.loop-task-preserved
loop-task-preserved g c =
    let law = c.events_are_counted.ensures in
    let held = c.loop-task.invariant.1 in
    (advanced_more law.forward law.back held.0 c.args.board.now c.loop-task.board c.take_turn.new.board c.args.steps.now c.loop-task.steps c.take_turn.new.steps held.1 c.loop-task.invariant.0 c.in_ok-take_turn.ensures.next, c.holds-in-Some.ensures)

pub returns-clause-steps : goal.returns-clause-steps
returns-clause-steps g c =
    let law = c.events_are_counted.ensures in
    let held = c.loop-task.invariant.1 in
    done_counts law.bounds law.done held.0 c.args.board.now c.loop-task.board c.args.steps.now c.loop-task.steps held.1 c.loop-task.invariant.0 ((c.in_ok-task.ensures.done refl).0 c.in_default.is)
