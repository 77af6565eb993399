-- The back rows, slot by slot.
use Rattle.std.proofs.Common.{◌≡◌, Some, All, filter, flat_map, sym, ap, subst, ◌∙◌, arith}
use Rattle.std.specs.Option.{option_map}
use Rattle.std.proofs.lemmas.Bool.{true≢false}
use Rattle.std.proofs.lemmas.List.{take_all}
use Rattle.sparse_row.specs.Row.{IsRow}
use Rattle.sector_machine.specs.Tasks.{shows_pivot_of}
use Rattle.reduction_core.specs.Shown.{AreShownBy}
use Rattle.reduction_core.specs.Slots.{back_of}
use Rattle.reduction_core.proofs.SlotLemmas.{part_rows, rows_of_slots}
use Rattle.reduction_core.proofs.ReadyLemmas.{held_ascend}
use Rattle.reduction_core.proofs.TurnLemmas.{back_rules_are_rows, unshown_rules, filter_flat_more, filter_flat_none, filter_flat_left}
use Rattle.reduction_core.proofs.turns.below.Goals as goal
use Rattle.reduction_core.proofs.turns.below.Goals.{then-show_unit+in-Some+in_ok-push_shown, then-show_unit+in_default, else-show_unit}

pub push_shown-requires-clause-rules : goal.push_shown-requires-clause-rules
push_shown-requires-clause-rules c =
    let p = c.requires.0 in (
      p,
      subst (All (IsRow p c.args.order)) (sym c.deref.ensures.value)
          (back_rules_are_rows p c.args.order c.requires.1 c.args.slots.now c.loop-slot.slot-index c.slot-item.result c.requires.2 c.loop-slot-test.true c.slot-item.is c.in-Some.rules.items (ap (option_map (λ rows. rows.items)) c.in-Some.is)),
    )

pub loop-slot-preserved : goal.loop-slot-preserved
loop-slot-preserved c =
    let p = c.requires.0 in
    let slots = c.args.slots.now in
    let slot = c.slot-item.result in
    let rows = c.args.rows.now in
    let test = shows_pivot_of c.args.order rows in
    let n = c.loop-slot.slot-index in
    let so_far = c.loop-slot.invariant in
    elim c.if-show_unit.branch [
      | then-show_unit+in-Some+in_ok-push_shown w ↦
          let some : back_of slot ≡ Some w.deref.result.now = ap (option_map (λ rules. rules.items)) w.in-Some.is ∙ ap Some (sym w.deref.ensures.value) in
          let shown : AreShownBy c.args.order rows w.deref-in-Some.result.now =
          subst (AreShownBy c.args.order rows) (sym w.deref-in-Some.ensures.value) (subst (λ rs. AreShownBy c.args.order rs c.in_ok-shown.shown.items) c.rows.ensures c.in_ok-shown.ensures) in
          rw (w.below-is, w.in_ok-push_shown.ensures rows shown)
          (filter_flat_more test slots n slot c.loop-slot.below.items w.deref.result.now c.loop-slot-test.true c.slot-item.is some so_far)
      | then-show_unit+in_default w ↦
          rw w.below-is (filter_flat_none test slots n slot c.loop-slot.below.items c.loop-slot-test.true c.slot-item.is (ap (option_map (λ rules. rules.items)) w.in_default.is) so_far)
      | else-show_unit w ↦
          rw w.below-is
          (filter_flat_left test slots n slot c.loop-slot.below.items c.loop-slot-test.true c.slot-item.is
          (unshown_rules p c.args.order c.requires.1 slots n slot c.requires.2 c.loop-slot-test.true c.slot-item.is rows (λ shows. true≢false (sym (c.show_unit.ensures.1 shows) ∙ w.if-show_unit.false))) so_far)
    ]

pub returns : goal.returns
returns c =
    let slots = c.args.slots.now in
    let test = shows_pivot_of c.args.order c.args.rows.now in
    c.loop-slot.invariant ∙ ap (λ ss. filter test (flat_map (part_rows back_of) ss)) (take_all c.loop-slot.slot-index slots (omega (arith, c.loop-slot-test.false)))
    ∙ ap (filter test) (sym (rows_of_slots back_of slots (held_ascend c.args.order slots c.requires)))
