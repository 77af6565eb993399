-- Each row adds the entry of its pivot.
use Rattle.std.proofs.Common.{subst, sym}
use Rattle.sector_forward.specs.Steps.{HasPivot}
use Rattle.back_substitute.proofs.Index.{IsListingBefore-more}
use Rattle.back_substitute.proofs.pivots.listed.Goals as goal

pub pivot_of-pivot-requires-clause-pivot : goal.pivot_of-pivot-requires-clause-pivot
pivot_of-pivot-requires-clause-pivot c =
    let row = c.index-rows-place.result in
    subst (HasPivot c.args.order) (sym c.index-rows-place.is) (c.requires.pivots c.loop-place.place row c.loop-place-test.true)

pub loop-place-preserved : goal.loop-place-preserved
loop-place-preserved c =
    rw c.in_ok-push.ensures.items
    (IsListingBefore-more c.args.order c.args.rows.now c.loop-place.place c.loop-place.listed.items c.index-rows-place.result c.pivot_of-pivot.result c.loop-place-test.true c.index-rows-place.is c.pivot_of-pivot.ensures c.loop-place.invariant)
