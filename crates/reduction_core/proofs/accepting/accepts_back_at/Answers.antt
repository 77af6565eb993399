-- The forward rows of the unit are those of its slot.
use Rattle.std.proofs.Common.{◌≡◌, ◌↔◌, IsTrue, [], unwrap_or, sym, ap, subst, ◌∙◌, get_or}
use Rattle.sector_forward.proofs.StepLemmas.{same_at}
use Rattle.sector_machine.specs.State.{rows_at}
use Rattle.sector_machine.specs.Machine.{MayBack}
use Rattle.sector_machine.specs.Accepted.{IsAcceptedBack}
use Rattle.reduction_core.specs.Slots.{by_unit, forward_of, state_of}
use Rattle.reduction_core.specs.Accepting.{FitsBoard}
use Rattle.reduction_core.proofs.CheckLemmas.{never}
use Rattle.reduction_core.proofs.ReadyLemmas.{may_back_not_yet}
use Rattle.reduction_core.proofs.AcceptingLemmas.{forward_at, back_joined_tests}
use Rattle.reduction_core.proofs.accepting.accepts_back_at.Goals as goal

pub returns-in-Some : goal.returns-in-Some
returns-in-Some c =
    λ d.
    let slots = c.args.slots.now in
    let p = c.args.modulus.now in
    let order = c.args.order in
    let slot = c.index-slots-place.result in
    let own : get_or slots c.args.place d ≡ slot = same_at slots c.args.place d slot c.requires.place ∙ sym c.index-slots-place.is in
    let may : MayBack slot.unit (state_of slots) = subst (λ s. MayBack s.unit (state_of slots)) own ((c.may_back.ensures d).0 c.if-not-may_back.false) in
    let rows : c.rows.result.now ≡ rows_at (by_unit forward_of slots) slot.unit =
    c.rows.ensures ∙ sym (forward_at p order c.requires.held.0 slots c.requires.held.1 c.args.place slot slot c.requires.place c.index-slots-place.is ∙ ap (λ o. unwrap_or o []) c.in-Some.is) in
    subst (λ s. IsTrue c.fits_board.result ↔ IsAcceptedBack p order (state_of slots) s.unit c.args.rows.now) (sym own)
    (back_joined_tests p order slots slot.unit c.args.rows.now c.fits_board.result may
    (subst (λ forward. IsTrue c.fits_board.result ↔ FitsBoard p order (state_of slots) slot.unit forward c.args.rows.now) rows c.fits_board.ensures))

pub returns-in-None : goal.returns-in-None
returns-in-None c =
    λ d.
    let slots = c.args.slots.now in
    never (IsAcceptedBack c.args.modulus.now c.args.order (state_of slots) (get_or slots c.args.place d).unit c.args.rows.now)
    (λ accepted.
    may_back_not_yet c.args.order slots c.args.place c.index-slots-place.result d (c.args.modulus.now, c.requires.held.0, c.requires.held.1) c.requires.place c.index-slots-place.is c.in-None.is accepted.may)
