-- The coefficient at the greatest integral is 1.
use Rattle.reduction_core.proofs.CheckLemmas.{pivot_tested}
use Rattle.reduction_core.proofs.checks.has_pivot.Goals as goal

pub returns-in-Some : goal.returns-in-Some
returns-in-Some c = pivot_tested c.args.order c.args.row.now.order c.args.row.now c.in-Some.greatest.now c.coefficient.result c.requires c.in-Some.ensures c.coefficient.ensures
