-- The row has the coefficient 1 at the integral, and 0 elsewhere.
use Rattle.std.proofs.Common.{sym, arith}
use Rattle.sector_forward.proofs.StepLemmas.{IsRow-in}
use Rattle.reduction_core.proofs.TableRows.{unit_made}
use Rattle.reduction_core.proofs.table.unit_row.Goals as goal

pub add_term-requires-clause-row : goal.add_term-requires-clause-row
add_term-requires-clause-row c =
    let is = c.new-row.ensures.row c.args.modulus.now (omega (arith, c.requires)) in
    IsRow-in c.args.modulus.now c.args.order c.new-row.result.order c.new-row.result (sym is.ordered) is

pub returns-clause-value : goal.returns-clause-value
returns-clause-value c =
    let start = c.new-row.ensures.row c.args.modulus.now (omega (arith, c.requires)) in
    unit_made c.args.modulus.now c.args.order c.args.x.now c.new-row.result c.add_term.new.self c.requires c.new-row.ensures.empty
    (IsRow-in c.args.modulus.now c.new-row.result.order c.args.order c.add_term.new.self start.ordered c.add_term.ensures.row) c.in_ok-add_term.ensures.sum c.in_ok-add_term.ensures.others
