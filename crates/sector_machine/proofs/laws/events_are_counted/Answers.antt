-- How many events a run has.
use Rattle.sector_machine.proofs.Counts.{forward_is_counted, back_is_counted, counts_are_bounded, done_is_counted, runs_are_short}
use Rattle.sector_machine.proofs.laws.events_are_counted.Goals as goal

pub returns-clause-forward : goal.returns-clause-forward
returns-clause-forward c = forward_is_counted

pub returns-clause-back : goal.returns-clause-back
returns-clause-back c = back_is_counted

pub returns-clause-bounds : goal.returns-clause-bounds
returns-clause-bounds c = counts_are_bounded

pub returns-clause-done : goal.returns-clause-done
returns-clause-done c = done_is_counted

pub returns-clause-run : goal.returns-clause-run
returns-clause-run c = runs_are_short
