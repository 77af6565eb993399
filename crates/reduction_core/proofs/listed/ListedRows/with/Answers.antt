-- The row adds the units of what it shows.
use Rattle.reduction_core.proofs.OpeningLemmas.{row_more}
use Rattle.reduction_core.proofs.listed.ListedRows.with.Goals as goal

pub invariant_of-result : goal.invariant_of-result
invariant_of-result c =
    rw c.in_ok-push.ensures.items
    (row_more c.self.inside.rows.items c.args.row c.self.inside.units.items c.list_units.new.units.items c.self.invariant c.in_ok-list_units.ensures)
