-- The search ends at the unit, or between the lesser and the greater ones.
use Rattle.std.proofs.Common.{rules, refl}
use Rattle.std.proofs.lemmas.Fn.{always_returns_same}
use Rattle.integral_index.specs.Order.{unit_compare}
use Rattle.reduction_core.proofs.OpeningLemmas.{unit_is_listed, unit_is_unlisted}
use Rattle.reduction_core.proofs.listed.is_listed.Goals as goal

pub returns-in-Ok : goal.returns-in-Ok
returns-in-Ok c =
    let there = unit_is_listed c.args.units.now c.args.unit c.in-Ok.field-0 c.in-Ok.ensures.bound
    (c.in-Ok.ensures.position (λ other. unit_compare other c.args.unit) (always_returns_same _ _ _ (λ a r q k. search rules))) in
    (λ _. there, λ _. refl)

pub returns-in-Err : goal.returns-in-Err
returns-in-Err c =
    let none = unit_is_unlisted c.args.units.now c.args.unit c.in-Err.field-0
    (c.in-Err.ensures.position (λ other. unit_compare other c.args.unit) (always_returns_same _ _ _ (λ a r q k. search rules))) c.requires in
    (λ test. absurd (cc), λ member. absurd (none member))
