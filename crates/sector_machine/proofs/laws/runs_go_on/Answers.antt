-- Runs go on, and what they lead to is determined.
use Rattle.sector_machine.proofs.Runs.{one_opening, one_state_after, runs_go_on}
use Rattle.sector_machine.proofs.laws.runs_go_on.Goals as goal

pub returns-clause-opening : goal.returns-clause-opening
returns-clause-opening c = one_opening

pub returns-clause-event : goal.returns-clause-event
returns-clause-event c = one_state_after

pub returns-clause-run : goal.returns-clause-run
returns-clause-run c = runs_go_on
