-- What is computed from the rows of a task is an event.
use Rattle.sector_machine.proofs.Serving.{are_below, has_all_shown, substitution_serves}
use Rattle.sector_machine.proofs.ForwardEvents.{elimination_accepted}
use Rattle.sector_machine.proofs.States.{forward_state}
use Rattle.sector_machine.specs.Tasks.{below_of}
use Rattle.sector_machine.proofs.laws.computed_rows_serve.Goals as goal

pub returns-clause-taken : goal.returns-clause-taken
returns-clause-taken c p order equations unit state holds = holds.waiting.grouped unit

pub returns-clause-forward_rows : goal.returns-clause-forward_rows
returns-clause-forward_rows c p order equations unit state holds may = (holds.forward unit, are_below p order equations unit state holds may)

pub returns-clause-elimination : goal.returns-clause-elimination
returns-clause-elimination c p order unit rows rest before after may elimination change =
    record { may = may; elimination = elimination; change = change }

pub returns-clause-substitution : goal.returns-clause-substitution
returns-clause-substitution c p order equations unit rows before after holds may substitution change =
    substitution_serves p order equations unit before holds (below_of order before unit) rows after may
    (has_all_shown p order equations unit before holds) substitution change

pub returns-clause-more_below : goal.returns-clause-more_below
returns-clause-more_below c p order equations unit below rows before after holds may all substitution change =
    substitution_serves p order equations unit before holds below rows after may all substitution change

pub returns-clause-states : goal.returns-clause-states
returns-clause-states c p order equations unit rows rest before holds may elimination =
    let accepted = elimination_accepted p order unit rows rest before may elimination in
    let after = forward_state p order equations unit rows rest before holds accepted in
    (after.0, record { may = may; elimination = elimination; change = after.1 })
