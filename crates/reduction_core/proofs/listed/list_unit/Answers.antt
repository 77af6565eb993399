-- The unit is there, or is put where the search ends.
use Rattle.std.proofs.Common.{rules}
use Rattle.std.proofs.lemmas.Fn.{always_returns_same}
use Rattle.integral_index.specs.Order.{unit_compare}
use Rattle.reduction_core.proofs.OpeningLemmas.{unit_there, unit_inserted}
use Rattle.reduction_core.proofs.listed.list_unit.Goals as goal

pub returns-in-Ok : goal.returns-in-Ok
returns-in-Ok c =
    rw (← c.deref.ensures.value)
    (unit_there c.deref.result.now c.args.unit c.in-Ok.field-0 c.in-Ok.ensures.bound
    (c.in-Ok.ensures.position (λ other. unit_compare other c.args.unit) (always_returns_same _ _ _ (λ a r q k. search rules))) (rw c.deref.ensures.value c.requires))

pub returns-in_ok-insert-in-Err : goal.returns-in_ok-insert-in-Err
returns-in_ok-insert-in-Err c =
    rw (c.in_ok-insert-in-Err.ensures.items, ← c.deref.ensures.value)
    (unit_inserted c.deref.result.now c.args.unit c.in-Err.place c.in-Err.ensures.bound
    (c.in-Err.ensures.position (λ other. unit_compare other c.args.unit) (always_returns_same _ _ _ (λ a r q k. search rules))) (rw c.deref.ensures.value c.requires))
