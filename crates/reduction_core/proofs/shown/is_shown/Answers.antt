-- The search ends at the integral, or between the lesser and the greater ones.
use Rattle.std.proofs.Common.{rules, refl}
use Rattle.std.proofs.lemmas.Fn.{always_returns_same}
use Rattle.integral_index.specs.Order.{compare}
use Rattle.reduction_core.proofs.ShownLemmas.{found_among, not_among}
use Rattle.reduction_core.proofs.shown.is_shown.Goals as goal

pub returns-in-Ok : goal.returns-in-Ok
returns-in-Ok c =
    let there = found_among c.args.order c.args.shown.now c.args.x.now c.in-Ok.field-0 c.in-Ok.ensures.bound
    (c.in-Ok.ensures.position (λ y. compare c.args.order y c.args.x.now) (always_returns_same _ _ _ (λ a r q k. search rules))) in
    (λ _. there, λ _. refl)

pub returns-in-Err : goal.returns-in-Err
returns-in-Err c =
    let none = not_among c.args.order c.args.shown.now c.args.x.now c.in-Err.field-0
    (c.in-Err.ensures.position (λ y. compare c.args.order y c.args.x.now) (always_returns_same _ _ _ (λ a r q k. search rules))) c.requires in
    (λ test. absurd (cc), λ member. absurd (none member))
