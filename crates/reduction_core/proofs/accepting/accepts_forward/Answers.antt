-- The unit is that of the slot at its place.
use Rattle.std.proofs.Common.{◌↔◌, IsTrue, None, [], subst}
use Rattle.sector_machine.specs.Accepted.{IsAcceptedForward}
use Rattle.reduction_core.specs.declared.slots.Slot.{Slot}
use Rattle.reduction_core.specs.Slots.{state_of}
use Rattle.reduction_core.proofs.accepting.accepts_forward.Goals as goal

pub returns-in-Some : goal.returns-in-Some
returns-in-Some c =
    let d : Slot = record { unit = c.args.unit; waiting = []; forward = None; back = None } in
    subst (λ unit. IsTrue c.accepts_forward_at.result ↔ IsAcceptedForward c.args.modulus.now c.args.order (state_of c.args.slots.now) unit c.args.rows.now c.args.rest.now) (c.in-Some.ensures.1 d) (c.accepts_forward_at.ensures d)
