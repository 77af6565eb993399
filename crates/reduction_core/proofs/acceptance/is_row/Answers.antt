-- The terms that a row is kept as tell all of it.
use Rattle.reduction_core.proofs.RowTests.{row_tested}
use Rattle.reduction_core.proofs.acceptance.is_row.Goals as goal

pub returns : goal.returns
returns c =
    row_tested c.args.modulus.now c.args.order c.args.row.now c.terms.result.now c.are_residues.result (c.has_order.ensures.0 c.if-not-has_order.false) c.are_residues.ensures.positive c.terms.ensures.value c.terms.ensures.list c.are_residues.ensures.value
