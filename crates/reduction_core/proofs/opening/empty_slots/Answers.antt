-- One slot more.
use Rattle.std.proofs.Common.{refl}
use Rattle.integral_index.specs.declared.Unit.{Unit}
use Rattle.sector_forward.proofs.StepLemmas.{same_at}
use Rattle.reduction_core.proofs.OpeningLemmas.{slots_more}
use Rattle.reduction_core.proofs.opening.empty_slots.Goals as goal

pub loop-unit-preserved : goal.loop-unit-preserved
loop-unit-preserved c =
    let units = c.args.units.now in
    let n = c.loop-unit.unit-index in
    let d : Unit = record { family = 0; sector = 0 } in
    rw c.in_ok-push.ensures.items
    (slots_more units n d c.loop-unit.slots.items _ c.loop-unit-test.true c.loop-unit.invariant
    (record { unit_is = same_at units n _ d c.loop-unit-test.true; waiting = c.new.ensures; forward = refl; back = refl }))
