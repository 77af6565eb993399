-- The terms descend, so the first term of a pivot is that of the greatest.
use Rattle.std.proofs.Common.{arith}
use Rattle.sector_forward.proofs.Shown.{shows_none, last_is_found, no_pivot_more}
use Rattle.sector_forward.proofs.steps.last_shown.Goals as goal

pub returns-in-Ok : goal.returns-in-Ok
returns-in-Ok c = (
  c.in-Ok.ensures.0,
  last_is_found c.requires.stairs.0 c.args.order c.args.row.now.order c.args.rows.now c.terms-terms.result.now c.args.row.now c.loop-term.term-index c.term-item.result c.in-Ok.place c.requires.stairs.1 c.requires.ordered
      c.terms-terms.ensures.list c.terms-terms.ensures.coefficients c.loop-term-test.true c.term-item.is c.loop-term.invariant c.in-Ok.ensures.0 c.in-Ok.ensures.1,
)

pub loop-term-preserved : goal.loop-term-preserved
loop-term-preserved c =
    no_pivot_more c.args.order c.args.rows.now c.terms-terms.result.now c.loop-term.term-index c.term-item.result c.in_default.field-0 c.loop-term-test.true c.term-item.is c.in_default.ensures c.loop-term.invariant

pub returns : goal.returns
returns c =
    shows_none c.args.order c.args.rows.now c.terms-terms.result.now c.args.row.now c.terms-terms.ensures.coefficients
    (λ i h. c.loop-term.invariant i (omega (arith, c.loop-term-test.false)))
