-- The search ends at an entry of the integral, or between the lesser and the greater ones.
use Rattle.std.proofs.Common.{rules}
use Rattle.std.proofs.lemmas.Fn.{always_returns_same}
use Rattle.integral_index.specs.Order.{compare}
use Rattle.back_substitute.proofs.Index.{found_entry, none_found}
use Rattle.back_substitute.proofs.pivots.place_of.Goals as goal

pub returns-in-Ok : goal.returns-in-Ok
returns-in-Ok c =
    let equal = c.in-Ok.ensures.position (λ e. compare c.args.order e.pivot c.args.x.now) (always_returns_same _ _ _ (λ a r q k. search rules)) in
    found_entry c.args.order c.args.index.now c.args.x.now c.in-Ok.found c.index-index-found.result c.in-Ok.ensures.bound equal

pub returns-in-Err : goal.returns-in-Err
returns-in-Err c =
    let parted = c.in-Err.ensures.position (λ e. compare c.args.order e.pivot c.args.x.now) (always_returns_same _ _ _ (λ a r q k. search rules)) in
    none_found c.args.order c.args.index.now c.args.x.now c.in-Err.field-0 c.requires parted
