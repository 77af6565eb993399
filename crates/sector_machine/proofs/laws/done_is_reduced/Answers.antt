-- The table of a done state is the reduced list of the equations.
use Rattle.sector_machine.proofs.Events.{run_holds}
use Rattle.sector_machine.proofs.Done.{table_is_reduced}
use Rattle.sector_machine.proofs.laws.done_is_reduced.Goals as goal

pub returns-clause-run : goal.returns-clause-run
returns-clause-run c p order equations events state table run done is =
    table_is_reduced p order equations state (run_holds p order equations events state run) done table is

pub returns-clause-state : goal.returns-clause-state
returns-clause-state c p order equations state table holds done is = table_is_reduced p order equations state holds done table is
