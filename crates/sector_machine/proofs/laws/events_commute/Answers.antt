-- Events of different units leave each other's tasks.
use Rattle.sector_machine.proofs.Tasks.{event_keeps_task}
use Rattle.sector_machine.proofs.Following.{events_follow}
use Rattle.sector_machine.proofs.laws.events_commute.Goals as goal

pub returns-clause-tasks : goal.returns-clause-tasks
returns-clause-tasks c = event_keeps_task

pub returns-clause-events : goal.returns-clause-events
returns-clause-events c = events_follow
