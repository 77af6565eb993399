-- The rows meet the conditions in their own order, and what they become holds in each order that they meet.
use Rattle.std.proofs.Common.{◌∙◌, List, ap}
use Rattle.sparse_row.specs.Row.{Row}
use Rattle.reduction_core.specs.Task.{Task}
use Rattle.reduction_core.specs.declared.task.Work.TheVariants as work
use Rattle.reduction_core.proofs.Tasks.{meet_in_order, substitution_met}
use Rattle.reduction_core.proofs.task.substituted.Goals as goal

pub substitute-requires-clause-rows : goal.substitute-requires-clause-rows
substitute-requires-clause-rows c =
    (meet_in_order c.args.modulus c.requires.0 c.args.unit c.args.rows.items c.args.below.items (c.requires.1, c.requires.2)).0

pub substitute-requires-clause-below : goal.substitute-requires-clause-below
substitute-requires-clause-below c =
    (meet_in_order c.args.modulus c.requires.0 c.args.unit c.args.rows.items c.args.below.items (c.requires.1, c.requires.2)).1

pub returns-clause-event : goal.returns-clause-event
returns-clause-event c =
    let s = c.in_ok-outcome.outcome in
    let whole : List Row → List Row → Task = λ rows below. record { modulus = c.args.modulus; work = work.Back c.args.unit rows below } in
    substitution_met c.args.modulus c.args.unit s.unit c.args.rows.items c.args.below.items s.rows c.back.result c.of_back-input.result.2
    c.in_ok-outcome.ensures.unit
    (
    c.back.ensures ∙ ap (λ rows. whole rows c.of_back-input.result.1.items) (c.of_back-input.ensures.input ∙ c.in_ok-outcome.ensures.input)
    ∙ ap (whole c.args.rows.items) (c.of_back-input.ensures.below ∙ c.in_ok-outcome.ensures.below)
    )
    c.of_back-input.ensures.value c.in_ok-outcome.ensures.substitution
