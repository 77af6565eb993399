-- An accepted record keeps what a board keeps, and where memory is refused no unit is left.
use Rattle.std.proofs.Common.{sym, ap, subst, ◌∙◌}
use Rattle.reduction_core.specs.Slots.{state_of}
use Rattle.reduction_core.specs.KeptBoard.{IsBoard}
use Rattle.reduction_core.specs.Records.{event_of, IsAccepted}
use Rattle.reduction_core.specs.Applying.{IsAfter}
use Rattle.reduction_core.proofs.BoardLemmas.{board_of_nothing, board_after, computed_leads}
use Rattle.reduction_core.proofs.board.Board.apply.Goals as goal

pub invariant_of-self : goal.invariant_of-self
invariant_of-self c =
    let b = c.self.inside in
    subst (λ slots. IsBoard b.modulus b.order (state_of slots)) (sym (ap (λ v. v.items) c.replace-slots.ensures.after ∙ c.new.ensures.items)) (board_of_nothing b.modulus b.order (c.self.invariant).modulus)

pub invariant_of-self-2 : goal.invariant_of-self-2
invariant_of-self-2 c =
    let b = c.self.inside in
    let before = state_of b.slots.items in
    let accepted : IsAccepted b.modulus b.order before c.args.entry = subst (λ v. IsAccepted v.modulus v.order v.state c.args.entry) (sym c.self.view_is) c.requires in
    board_after b.modulus b.order before (state_of c.in_ok-self-inside.field-0.items) c.args.entry c.self.invariant accepted
    (subst (λ slots. IsAfter b.order (event_of c.args.entry) (state_of slots) (state_of c.in_ok-self-inside.field-0.items)) (ap (λ v. v.items) c.replace-slots.ensures.value) c.in_ok-self-inside.ensures)

pub returns-clause-event : goal.returns-clause-event
returns-clause-event c =
    let b = c.self.inside in
    let before = state_of b.slots.items in
    let after = state_of c.in_ok-self-inside.field-0.items in
    let accepted : IsAccepted b.modulus b.order before c.args.entry = subst (λ v. IsAccepted v.modulus v.order v.state c.args.entry) (sym c.self.view_is) c.requires in
    let change : IsAfter b.order (event_of c.args.entry) before after =
    subst (λ slots. IsAfter b.order (event_of c.args.entry) (state_of slots) after) (ap (λ v. v.items) c.replace-slots.ensures.value) c.in_ok-self-inside.ensures in
    rw (← c.self.view_is) (computed_leads b.modulus b.order before after c.args.entry c.self.invariant accepted change)
