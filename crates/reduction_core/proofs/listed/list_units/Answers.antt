-- What the row shows are its terms.
use Rattle.std.proofs.Common.{arith}
use Rattle.reduction_core.proofs.OpeningLemmas.{listed_more, listed_row}
use Rattle.reduction_core.proofs.listed.list_units.Goals as goal

pub loop-term-preserved : goal.loop-term-preserved
loop-term-preserved c =
    listed_more c.terms-terms.result.now c.loop-term.term-index c.term-item.result c.unit.result c.args.units.now.items c.loop-term.units.items c.list_unit.new.units.items
    c.loop-term-test.true c.term-item.is c.unit.ensures c.loop-term.invariant c.in_ok-list_unit.ensures

pub returns : goal.returns
returns c =
    listed_row c.args.row.now.order c.terms-terms.result.now c.args.row.now c.loop-term.term-index c.args.units.now.items c.loop-term.units.items c.terms-terms.ensures.list c.terms-terms.ensures.coefficients
    (omega (arith, c.loop-term-test.false)) (omega (arith, c.loop-term.auto.term-index-end)) c.loop-term.invariant
