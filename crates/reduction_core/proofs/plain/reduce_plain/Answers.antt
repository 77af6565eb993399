-- The rows are reduced, and there is only one reduced list.
use Rattle.std.proofs.Common.{sym, ap, ◌∙◌}
use Rattle.reduction_core.proofs.OneTable.{one_list_of_equations}
use Rattle.reduction_core.proofs.plain.reduce_plain.Goals as goal

pub returns-clause-reduced : goal.returns-clause-reduced
returns-clause-reduced c = rw c.of_rows.ensures c.in_ok-reduced.ensures.reduced

pub returns-clause-only : goal.returns-clause-only
returns-clause-only c =
    λ other reduced.
    one_list_of_equations c.args.modulus c.args.order c.args.rows.items other c.in_ok-reduced.reduced.items reduced c.in_ok-reduced.ensures.reduced ∙ sym (ap (λ t. t.rows) c.of_rows.ensures)
