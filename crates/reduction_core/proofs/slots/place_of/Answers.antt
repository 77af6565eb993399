-- The search ends at the unit, or between the lesser and the greater ones.
use Rattle.std.proofs.Common.{rules}
use Rattle.std.proofs.lemmas.Fn.{always_returns_same}
use Rattle.integral_index.specs.Order.{unit_compare}
use Rattle.reduction_core.proofs.SlotLemmas.{unit_found, none_of_unit}
use Rattle.reduction_core.proofs.slots.place_of.Goals as goal

pub returns-in-Ok : goal.returns-in-Ok
returns-in-Ok c =
    unit_found c.args.slots.now c.args.unit c.in-Ok.place c.in-Ok.ensures.bound
    (c.in-Ok.ensures.position (λ slot. unit_compare slot.unit c.args.unit) (always_returns_same _ _ _ (λ a r q k. search rules)))

pub returns-in-Err : goal.returns-in-Err
returns-in-Err c =
    none_of_unit c.args.slots.now c.args.unit c.in-Err.field-0 c.requires
    (c.in-Err.ensures.position (λ slot. unit_compare slot.unit c.args.unit) (always_returns_same _ _ _ (λ a r q k. search rules)))
