-- What holds of an opening, and so of each state that a run reaches.
use Rattle.sector_machine.proofs.Opening.{opening_holds}
use Rattle.sector_machine.proofs.Events.{event_keeps, run_holds}
use Rattle.sector_machine.proofs.laws.events_keep_the_invariant.Goals as goal

pub returns-clause-opening : goal.returns-clause-opening
returns-clause-opening c = opening_holds

pub returns-clause-event : goal.returns-clause-event
returns-clause-event c = event_keeps

pub returns-clause-run : goal.returns-clause-run
returns-clause-run c = run_holds
