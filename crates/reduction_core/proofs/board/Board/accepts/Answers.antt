-- A record that meets its event is accepted.
use Rattle.std.proofs.Common.{◌↔◌, IsTrue, sym, subst}
use Rattle.reduction_core.specs.Slots.{state_of}
use Rattle.reduction_core.specs.Records.{IsAccepted}
use Rattle.reduction_core.proofs.BoardLemmas.{leads_accepted}
use Rattle.reduction_core.proofs.board.Board.accepts.Goals as goal

pub returns-clause-event : goal.returns-clause-event
returns-clause-event c =
    λ after leads.
    let b = c.self.inside in
    let v = c.args.self.now in
    let accepted : IsAccepted b.modulus b.order (state_of b.slots.items) c.args.entry.now =
    subst (λ w. IsAccepted w.modulus w.order w.state c.args.entry.now) (sym c.self.view_is) (leads_accepted v.modulus v.order v.state after c.args.entry.now leads) in
    (subst (λ slots. IsTrue c.accepts.result ↔ IsAccepted b.modulus b.order (state_of slots) c.args.entry.now) c.deref.ensures.value c.accepts.ensures).1 accepted
