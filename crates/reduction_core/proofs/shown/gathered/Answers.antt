-- Each row adds what it shows.
use Rattle.std.proofs.Common.{[], sym, subst}
use Rattle.std.proofs.lemmas.List.{take_all}
use Rattle.reduction_core.proofs.ShownLemmas.{AreGathered, gained_row, gathered_none, gathered_more}
use Rattle.reduction_core.proofs.shown.gathered.Goals as goal

pub loop-row-init : goal.loop-row-init
loop-row-init c = subst (AreGathered []) (sym c.new-shown.ensures.items) gathered_none

pub loop-row-preserved : goal.loop-row-preserved
loop-row-preserved c =
    gathered_more c.args.rows.now c.loop-row.row-index c.row-item.result c.loop-row.shown.items c.push_integrals.new.integrals.items c.loop-row-test.true c.row-item.is c.loop-row.invariant
    (gained_row c.row-item.result c.loop-row.shown.items c.push_integrals.new.integrals.items c.in_ok-push_integrals.ensures)

pub returns : goal.returns
returns c = subst (λ rows. AreGathered rows c.loop-row.shown.items) (take_all c.loop-row.row-index c.args.rows.now c.loop-row-test.false) c.loop-row.invariant
