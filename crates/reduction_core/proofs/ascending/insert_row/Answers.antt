-- The row stands in its place.
use Rattle.std.proofs.Common.{subst}
use Rattle.sector_forward.specs.Steps.{IsPlaceFor}
use Rattle.sector_forward.proofs.Taking.{IsStairs-insert}
use Rattle.reduction_core.proofs.AscendingLemmas.{members_inserted}
use Rattle.reduction_core.proofs.ascending.insert_row.Goals as goal

pub returns-clause-stairs : goal.returns-clause-stairs
returns-clause-stairs c =
    λ p stairs is.
    let x = c.requires.pivot.0 in
    let free = subst (λ table. IsPlaceFor c.args.order table x c.place_for-place.result) c.deref.ensures.value (c.place_for-place.ensures x c.requires.pivot.1) in
    rw c.in_ok-insert.ensures.items (IsStairs-insert p c.args.order c.args.table.now.items c.args.row x c.place_for-place.result stairs is c.requires.pivot.1 free)

pub returns-clause-members : goal.returns-clause-members
returns-clause-members c = rw c.in_ok-insert.ensures.items (members_inserted c.args.table.now.items c.place_for-place.result c.args.row)
