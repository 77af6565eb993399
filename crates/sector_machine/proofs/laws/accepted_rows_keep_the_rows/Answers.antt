-- Accepted rows keep what holds of the rows of a state.
use Rattle.sector_machine.proofs.ForwardEvents.{forward_is_accepted, accepted_forward_keeps}
use Rattle.sector_machine.proofs.BackEvents.{back_is_accepted, accepted_back_keeps}
use Rattle.sector_machine.proofs.laws.accepted_rows_keep_the_rows.Goals as goal

pub returns-clause-forward_event : goal.returns-clause-forward_event
returns-clause-forward_event c = forward_is_accepted

pub returns-clause-back_event : goal.returns-clause-back_event
returns-clause-back_event c = back_is_accepted

pub returns-clause-forward : goal.returns-clause-forward
returns-clause-forward c = accepted_forward_keeps

pub returns-clause-back : goal.returns-clause-back
returns-clause-back c = accepted_back_keeps
