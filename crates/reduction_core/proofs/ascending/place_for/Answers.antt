-- No row of the table has the pivot, so the search ends at a place for it.
use Rattle.std.proofs.Common.{subst}
use Rattle.sparse_row.proofs.RowValues.{greatest_same}
use Rattle.sector_forward.specs.Steps.{IsPlaceFor}
use Rattle.reduction_core.proofs.AscendingLemmas.{greatest_is_pivot, not_there}
use Rattle.reduction_core.proofs.ascending.place_for.Goals as goal

pub unreachable-requires : goal.unreachable-requires
unreachable-requires c =
    let row = c.args.row.now in
    let x = c.in-Some.pivot.now in
    not_there c.args.order c.args.table.now row x c.in-Ok.field-0 c.requires.new
    (greatest_is_pivot c.args.order row.order row x (c.requires.stairs.2).ordered c.requires.pivot c.in-Some.ensures) c.in-Ok.ensures.0 c.in-Ok.ensures.1

pub returns : goal.returns
returns c =
    λ x pivot.
    let row = c.args.row.now in
    let own = greatest_is_pivot c.args.order row.order row c.in-Some.pivot.now (c.requires.stairs.2).ordered c.requires.pivot c.in-Some.ensures in
    subst (λ y. IsPlaceFor c.args.order c.args.table.now y c.in-Err.place) (greatest_same c.args.order row c.in-Some.pivot.now x own.is_greatest pivot.is_greatest) c.in-Err.ensures
