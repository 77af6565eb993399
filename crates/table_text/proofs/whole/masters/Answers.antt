use Rattle.table_text.specs.TableText.{zeros_of}
use Rattle.table_text.proofs.FoundMasters.{found_masters}
use Rattle.table_text.proofs.whole.masters.Goals as goal

pub returns : goal.returns
returns c =
    found_masters (zeros_of c.args.zeros.now) c.args.table.now c.args.selection.now c.loop-integral.integral-index c.loop-integral.shown.items c.in_ok-ascending.field-0.items c.order.result c.loop-integral-test.false
    c.loop-integral.invariant c.order.ensures c.in_ok-ascending.ensures.ascend c.in_ok-ascending.ensures.members
