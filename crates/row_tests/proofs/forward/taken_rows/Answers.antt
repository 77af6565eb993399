-- One row more of the unit.
use Rattle.std.proofs.lemmas.List.Elements.{All-push}
use Rattle.integral_index.specs.declared.Order.TheVariants.{Standard}
use Rattle.sector_forward.specs.Elimination.{IsTaken}
use Rattle.row_tests.proofs.forward.taken_rows.Goals as goal

pub loop-terms-preserved : goal.loop-terms-preserved
loop-terms-preserved c =
    rw c.in_ok-push.ensures.items (All-push (IsTaken c.args.modulus.now Standard c.args.unit) c.loop-terms.made.items c.in_ok-row.row c.loop-terms.invariant c.in_ok-row.ensures)
