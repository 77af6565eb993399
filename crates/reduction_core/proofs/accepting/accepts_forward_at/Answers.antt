-- The rows that wait at the unit are those of its slot.
use Rattle.std.proofs.Common.{◌≡◌, ◌↔◌, IsTrue, sym, subst, ◌∙◌, get_or}
use Rattle.sector_forward.proofs.StepLemmas.{same_at}
use Rattle.sector_machine.specs.State.{rows_at}
use Rattle.sector_machine.specs.Machine.{MayForward}
use Rattle.sector_machine.specs.Accepted.{IsAcceptedForward}
use Rattle.reduction_core.specs.Slots.{by_unit, waiting_of, state_of}
use Rattle.reduction_core.specs.Acceptance.{FitForward}
use Rattle.reduction_core.proofs.AcceptingLemmas.{waiting_at, forward_joined_tests}
use Rattle.reduction_core.proofs.accepting.accepts_forward_at.Goals as goal

pub returns : goal.returns
returns c =
    λ d.
    let slots = c.args.slots.now in
    let p = c.args.modulus.now in
    let order = c.args.order in
    let slot = c.index-slots-place.result in
    let own : get_or slots c.args.place d ≡ slot = same_at slots c.args.place d slot c.requires.place ∙ sym c.index-slots-place.is in
    let may : MayForward order slot.unit (state_of slots) = subst (λ s. MayForward order s.unit (state_of slots)) own ((c.may_forward.ensures d).0 c.if-not-may_forward.false) in
    let rows : c.rows.result.now ≡ rows_at (by_unit waiting_of slots) slot.unit =
    c.rows.ensures ∙ sym (waiting_at p order c.requires.held.0 slots c.requires.held.1 c.args.place slot slot c.requires.place c.index-slots-place.is) in
    subst (λ s. IsTrue c.fit_forward.result ↔ IsAcceptedForward p order (state_of slots) s.unit c.args.rows.now c.args.rest.now) (sym own)
    (forward_joined_tests p order slots slot.unit c.args.rows.now c.args.rest.now c.fit_forward.result may
    (subst (λ taken. IsTrue c.fit_forward.result ↔ FitForward p order slot.unit taken c.args.rows.now c.args.rest.now) rows c.fit_forward.ensures))
