-- All rows wait at the units of what they show.
use Rattle.std.proofs.Common.{ℕ, subst, All}
use Rattle.std.specs.List.{AllZip}
use Rattle.std.proofs.lemmas.Result.{IfOk-weaker}
use Rattle.sparse_row.specs.Row.{IsRow}
use Rattle.sector_machine.specs.Machine.{AreUnitsOf, Opens}
use Rattle.reduction_core.specs.Slots.{state_of, IsJoined}
use Rattle.reduction_core.specs.Opening.{IsEmptySlot}
use Rattle.reduction_core.proofs.OpeningLemmas.{ascend_of_empty, listed_of_empty, Opens-made}
use Rattle.reduction_core.proofs.opening.opened.Goals as goal

pub joined-requires-clause-ascend : goal.joined-requires-clause-ascend
joined-requires-clause-ascend c =
    let are = subst (λ rows. AreUnitsOf rows c.in_ok-units.units.items) c.deref.ensures.value c.in_ok-units.ensures in
    let zip = subst (λ units. AllZip IsEmptySlot units c.in_ok-slots.slots.items) c.deref-2.ensures.value c.in_ok-slots.ensures in
    ascend_of_empty c.args.rows.items c.in_ok-units.units.items c.in_ok-slots.slots.items are zip

pub joined-requires-clause-listed : goal.joined-requires-clause-listed
joined-requires-clause-listed c =
    let are = subst (λ rows. AreUnitsOf rows c.in_ok-units.units.items) c.deref.ensures.value c.in_ok-units.ensures in
    let zip = subst (λ units. AllZip IsEmptySlot units c.in_ok-slots.slots.items) c.deref-2.ensures.value c.in_ok-slots.ensures in
    listed_of_empty c.args.order c.args.rows.items c.in_ok-units.units.items c.in_ok-slots.slots.items are zip

pub returns : goal.returns
returns c =
    let rows = c.args.rows.items in
    let are = subst (λ rs. AreUnitsOf rs c.in_ok-units.units.items) c.deref.ensures.value c.in_ok-units.ensures in
    let zip = subst (λ units. AllZip IsEmptySlot units c.in_ok-slots.slots.items) c.deref-2.ensures.value c.in_ok-slots.ensures in
    IfOk-weaker c.joined.result (λ slots. AllZip (IsJoined c.args.order rows) c.in_ok-slots.slots.items slots.items) (λ slots. (p : ℕ) → All (IsRow p c.args.order) rows → Opens p c.args.order rows (state_of slots.items))
    (λ slots more p are_rows. Opens-made p c.args.order rows c.in_ok-units.units.items c.in_ok-slots.slots.items slots.items are_rows are zip more) c.joined.ensures
