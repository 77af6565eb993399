-- An event may happen until the state is done.
use Rattle.sector_machine.proofs.Ready.{something_is_ready, done_is_the_end}
use Rattle.sector_machine.proofs.laws.something_is_ready.Goals as goal

pub returns-clause-ready : goal.returns-clause-ready
returns-clause-ready c p order equations state holds unfinished = something_is_ready p order equations state holds unfinished

pub returns-clause-done : goal.returns-clause-done
returns-clause-done c p order equations unit state holds done = done_is_the_end p order equations state holds done unit
