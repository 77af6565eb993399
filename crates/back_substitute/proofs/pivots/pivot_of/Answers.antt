-- The greatest integral of a row with a pivot is the pivot.
use Rattle.std.proofs.Common.{subst}
use Rattle.sparse_row.specs.Row.{IsGreatest, IsPivot}
use Rattle.sparse_row.proofs.RowValues.{greatest_same}
use Rattle.back_substitute.proofs.pivots.pivot_of.Goals as goal

pub returns : goal.returns
returns c =
    let row = c.args.row.now in
    let x = c.in-Some.pivot.now in
    let pivot = c.requires.pivot in
    let top : IsGreatest c.args.order row x = subst (λ o. IsGreatest o row x) c.requires.ordered c.in-Some.ensures in
    subst (IsPivot c.args.order row) (greatest_same c.args.order row pivot.0 x (pivot.1).is_greatest top) pivot.1
