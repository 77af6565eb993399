-- The rows are taken in their own order, and what they become holds in each order that they meet.
use Rattle.std.proofs.Common.{◌∙◌, ap}
use Rattle.reduction_core.specs.declared.task.Work.TheVariants as work
use Rattle.reduction_core.proofs.Tasks.{taken_in_order, elimination_met}
use Rattle.reduction_core.proofs.task.eliminated.Goals as goal

pub eliminate-requires : goal.eliminate-requires
eliminate-requires g c = taken_in_order c.args.modulus c.requires.0 c.args.unit c.args.rows.items c.requires.1

pub returns-clause-event : goal.returns-clause-event
returns-clause-event g c =
    let e = c.in_ok-outcome.outcome in
    elimination_met c.args.modulus c.args.unit e.unit c.args.rows.items e.rows e.rest c.forward.result c.of_forward-input.result.1
    c.in_ok-outcome.ensures.unit
    (c.forward.ensures ∙ ap (λ taken. record { modulus = c.args.modulus; work = work.Forward c.args.unit taken }) (c.of_forward-input.ensures.input ∙ c.in_ok-outcome.ensures.input))
    c.of_forward-input.ensures.value c.in_ok-outcome.ensures.elimination
