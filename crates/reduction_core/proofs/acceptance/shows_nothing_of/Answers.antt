-- What a row shows is the integral of a term.
use Rattle.std.proofs.Common.{◌≡◌, ◌≢◌}
use Rattle.integral_index.specs.Integral.{Integral}
use Rattle.integral_index.specs.Order.{unit_of}
use Rattle.sparse_row.specs.Row.{Shows}
use Rattle.reduction_core.proofs.CheckLemmas.{untrue, never, always, not_all, all_of_front, all_of_front_more}
use Rattle.reduction_core.proofs.RowTests.{shown_all, shown_each}
use Rattle.reduction_core.proofs.acceptance.shows_nothing_of.Goals as goal

pub returns-then-is_of_unit : goal.returns-then-is_of_unit
returns-then-is_of_unit c =
    let terms = c.terms-terms.result.now in
    never ((x : Integral) → Shows c.args.row.now x → unit_of x ≢ c.args.unit)
    (λ none.
    not_all (λ t. unit_of t.integral ≢ c.args.unit) terms c.loop-term.term-index c.term-item.result c.loop-term-test.true c.term-item.is (λ other. other (c.is_of_unit.ensures.0 c.if-is_of_unit.true))
    (shown_each c.args.row.now.order c.args.row.now terms c.terms-terms.ensures.list c.terms-terms.ensures.coefficients (λ x. unit_of x ≢ c.args.unit) none))

pub loop-term-preserved : goal.loop-term-preserved
loop-term-preserved c =
    all_of_front_more (λ t. unit_of t.integral ≢ c.args.unit) c.terms-terms.result.now c.loop-term.term-index c.term-item.result c.loop-term-test.true c.term-item.is c.loop-term.invariant (untrue c.is_of_unit.result (unit_of c.term-item.result.integral ≡ c.args.unit) c.if-is_of_unit.false c.is_of_unit.ensures)

pub returns : goal.returns
returns c =
    let terms = c.terms-terms.result.now in
    always ((x : Integral) → Shows c.args.row.now x → unit_of x ≢ c.args.unit)
    (shown_all c.args.row.now.order c.args.row.now terms c.terms-terms.ensures.list c.terms-terms.ensures.coefficients (λ x. unit_of x ≢ c.args.unit)
    (all_of_front (λ t. unit_of t.integral ≢ c.args.unit) terms c.loop-term.term-index c.loop-term-test.false c.loop-term.auto.term-index-end c.loop-term.invariant))
