-- The units of the rest are listed.
use Rattle.std.proofs.Common.{List, sym, subst}
use Rattle.sparse_row.specs.Row.{Row}
use Rattle.sector_machine.specs.Accepted.{IsAcceptedForward}
use Rattle.reduction_core.specs.Slots.{units_of, state_of}
use Rattle.reduction_core.specs.Records.{IsAccepted}
use Rattle.reduction_core.specs.Applying.{IsRestFor}
use Rattle.reduction_core.proofs.BoardLemmas.{rest_fits}
use Rattle.reduction_core.proofs.applying.after_record.Goals as goal

pub after_forward-requires-clause-rest : goal.after_forward-requires-clause-rest
after_forward-requires-clause-rest c =
    let p = c.requires.0 in
    let state = state_of c.args.slots.items in
    let accepted : IsAcceptedForward p c.args.order state c.in-Forward.unit c.in-Forward.rows c.in-Forward.rest = subst (IsAccepted p c.args.order state) c.in-Forward.is c.requires.2 in
    subst (λ (rest : List Row). IsRestFor c.args.order c.in-Forward.unit (units_of c.args.slots.items) rest) (sym c.into_vec-in-Forward.ensures)
    (rest_fits p c.args.order (c.requires.1).equations c.in-Forward.unit c.in-Forward.rows c.in-Forward.rest state (c.requires.1).holds accepted)
