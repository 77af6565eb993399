-- The forward rows of the unit, and the back rows whose pivots they show.
use Rattle.std.proofs.Common.{◌≡◌, filter, refl, sym, ap, subst, unwrap_or, [], ◌∙◌}
use Rattle.back_substitute.specs.Substitution.{AreRules, AreBelow}
use Rattle.sector_machine.specs.State.{rows_at}
use Rattle.sector_machine.specs.Machine.{back_rows}
use Rattle.sector_machine.specs.Tasks.{shows_pivot_of, below_of}
use Rattle.sector_machine.proofs.Serving.{are_below}
use Rattle.reduction_core.specs.Slots.{by_unit, forward_of, state_of}
use Rattle.reduction_core.specs.Ready.{IsBackTurn, IsReady}
use Rattle.reduction_core.proofs.ReadyLemmas.{may_back_not_yet}
use Rattle.reduction_core.proofs.TurnLemmas.{slot_rows}
use Rattle.reduction_core.proofs.turns.back_task.Goals as goal

pub unreachable-requires : goal.unreachable-requires
unreachable-requires c =
    let slot = c.index-slots-place.result in
    may_back_not_yet c.args.order c.args.slots.now c.args.place slot slot (c.args.modulus, c.requires.held.0, c.requires.held.1) c.requires.place c.index-slots-place.is c.in-None.is (c.requires.turn slot).may

pub back-requires : goal.back-requires
back-requires c =
    let slots = c.args.slots.now in
    let slot = c.index-slots-place.result in
    let p = c.args.modulus in
    let order = c.args.order in
    let holds = c.requires.held.1 in
    let are : c.in_ok-rows-in-Some.rows.items ≡ rows_at (by_unit forward_of slots) slot.unit =
    c.in_ok-rows-in-Some.ensures ∙ c.rows.ensures ∙ sym (slot_rows p order c.requires.held.0 slots c.args.place slot holds c.requires.place c.index-slots-place.is forward_of ∙ ap (λ o. unwrap_or o []) c.in-Some.is) in
    let of_unit = sym (slot_rows p order c.requires.held.0 slots c.args.place slot holds c.requires.place c.index-slots-place.is forward_of ∙ ap (λ o. unwrap_or o []) c.in-Some.is) in
    let below : c.in_ok-below-in-Some.below.items ≡ below_of order (state_of slots) slot.unit =
    c.in_ok-below-in-Some.ensures ∙ ap (λ rows. filter (shows_pivot_of order rows) (back_rows (state_of slots))) of_unit in
    let turn : IsBackTurn (state_of slots) c.args.busy.now slot.unit = subst (λ s. IsBackTurn (state_of slots) c.args.busy.now s.unit) (sym c.index-slots-place.is) (c.requires.turn slot) in (
      order,
      subst (AreRules p order slot.unit) (sym are) (holds.forward slot.unit),
      subst (AreBelow p order slot.unit) (sym below) (are_below p order c.requires.held.0 slot.unit (state_of slots) holds turn.may),
    )

pub returns : goal.returns
returns c =
    let slots = c.args.slots.now in
    let slot = c.index-slots-place.result in
    let p = c.args.modulus in
    let order = c.args.order in
    let holds = c.requires.held.1 in
    let are : c.in_ok-rows-in-Some.rows.items ≡ rows_at (by_unit forward_of slots) slot.unit =
    c.in_ok-rows-in-Some.ensures ∙ c.rows.ensures ∙ sym (slot_rows p order c.requires.held.0 slots c.args.place slot holds c.requires.place c.index-slots-place.is forward_of ∙ ap (λ o. unwrap_or o []) c.in-Some.is) in
    let of_unit = sym (slot_rows p order c.requires.held.0 slots c.args.place slot holds c.requires.place c.index-slots-place.is forward_of ∙ ap (λ o. unwrap_or o []) c.in-Some.is) in
    let below : c.in_ok-below-in-Some.below.items ≡ below_of order (state_of slots) slot.unit =
    c.in_ok-below-in-Some.ensures ∙ ap (λ rows. filter (shows_pivot_of order rows) (back_rows (state_of slots))) of_unit in
    let turn : IsBackTurn (state_of slots) c.args.busy.now slot.unit = subst (λ s. IsBackTurn (state_of slots) c.args.busy.now s.unit) (sym c.index-slots-place.is) (c.requires.turn slot) in
    subst (λ t. (t.modulus ≡ p) × IsReady order (state_of slots) c.args.busy.now t.work) (sym c.back.ensures) (refl, (c.requires.none, turn, are, below))
