-- The units stay, so the rest has where to wait.
use Rattle.std.proofs.Common.{sym, subst}
use Rattle.std.specs.List.{AllZip}
use Rattle.std.proofs.lemmas.Result.{IfOk-weaker}
use Rattle.sector_machine.specs.Machine.{Ascends, IsAfterForward}
use Rattle.reduction_core.specs.Slots.{HaveListedUnits, IsJoined, state_of}
use Rattle.reduction_core.specs.Applying.{IsChangedFor, HasForward}
use Rattle.reduction_core.proofs.ApplyLemmas.{changed_units, is_after_forward}
use Rattle.reduction_core.proofs.applying.after_forward.Goals as goal

pub joined-requires-clause-ascend : goal.joined-requires-clause-ascend
joined-requires-clause-ascend c =
    subst Ascends (sym (changed_units (HasForward c.in_ok-listed.listed) c.args.unit c.args.slots.items c.set_forward.new.slots.items c.set_forward.ensures)) c.requires.ascend

pub joined-requires-clause-listed : goal.joined-requires-clause-listed
joined-requires-clause-listed c =
    subst (λ units. HaveListedUnits c.args.order units c.args.rest.items) (sym (changed_units (HasForward c.in_ok-listed.listed) c.args.unit c.args.slots.items c.set_forward.new.slots.items c.set_forward.ensures)) c.requires.rest.listed

pub returns : goal.returns
returns c =
    let slots = c.args.slots.items in
    let changed : AllZip (IsChangedFor (HasForward c.args.rows.items) c.args.unit) slots c.set_forward.new.slots.items =
    subst (λ rows. AllZip (IsChangedFor (HasForward rows) c.args.unit) slots c.set_forward.new.slots.items) c.in_ok-listed.ensures c.set_forward.ensures in
    IfOk-weaker c.joined.result (λ after. AllZip (IsJoined c.args.order c.args.rest.items) c.set_forward.new.slots.items after.items)
    (λ after. IsAfterForward c.args.order c.args.unit c.args.rows.items c.args.rest.items (state_of slots) (state_of after.items))
    (λ after joined. is_after_forward c.args.order c.args.unit c.args.rows.items c.args.rest.items slots c.set_forward.new.slots.items after.items c.requires.ascend c.requires.listed c.requires.rest changed joined)
    c.joined.ensures
