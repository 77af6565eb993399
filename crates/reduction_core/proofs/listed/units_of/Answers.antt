-- Each row adds the units of what it shows.
use Rattle.reduction_core.proofs.OpeningLemmas.{units_more}
use Rattle.reduction_core.proofs.listed.units_of.Goals as goal

pub loop-row-preserved : goal.loop-row-preserved
loop-row-preserved c =
    units_more c.args.rows.now c.loop-row.row-index c.row-item.result c.loop-row.units.items c.list_units.new.units.items c.loop-row-test.true c.row-item.is c.loop-row.invariant c.in_ok-list_units.ensures
