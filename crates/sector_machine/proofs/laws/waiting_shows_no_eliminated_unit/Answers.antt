-- What waiting rows and back rows show.
use Rattle.sector_machine.proofs.Events.{run_holds}
use Rattle.sector_machine.proofs.laws.waiting_shows_no_eliminated_unit.Goals as goal

pub returns-clause-waiting : goal.returns-clause-waiting
returns-clause-waiting c p order equations events state row x run among shows =
    (run_holds p order equations events state run).rows.waiting.not_eliminated row x among shows

pub returns-clause-back : goal.returns-clause-back
returns-clause-back c p order equations events state row x run among shows =
    (run_holds p order equations events state run).rows.back.closed row x among shows
