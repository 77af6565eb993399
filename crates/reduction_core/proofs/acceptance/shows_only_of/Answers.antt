-- What a row shows is the integral of a term.
use Rattle.sector_forward.specs.Elimination.{IsShownBySome}
use Rattle.reduction_core.specs.Acceptance.{ShowsOnly}
use Rattle.reduction_core.proofs.CheckLemmas.{untrue, never, always, not_all, all_of_front, all_of_front_more}
use Rattle.reduction_core.proofs.RowTests.{shown_all, shown_each}
use Rattle.reduction_core.proofs.acceptance.shows_only_of.Goals as goal

pub returns-then-not-is_shown_by_some : goal.returns-then-not-is_shown_by_some
returns-then-not-is_shown_by_some c =
    let terms = c.terms-terms.result.now in
    never (ShowsOnly c.args.others.now c.args.row.now)
    (λ only.
    not_all (λ t. IsShownBySome c.args.others.now t.integral) terms c.loop-term.term-index c.term-item.result c.loop-term-test.true c.term-item.is
    (untrue c.is_shown_by_some.result (IsShownBySome c.args.others.now c.term-item.result.integral) c.if-not-is_shown_by_some.true c.is_shown_by_some.ensures)
    (shown_each c.args.row.now.order c.args.row.now terms c.terms-terms.ensures.list c.terms-terms.ensures.coefficients (IsShownBySome c.args.others.now) only))

pub loop-term-preserved : goal.loop-term-preserved
loop-term-preserved c =
    all_of_front_more (λ t. IsShownBySome c.args.others.now t.integral) c.terms-terms.result.now c.loop-term.term-index c.term-item.result c.loop-term-test.true c.term-item.is c.loop-term.invariant (c.is_shown_by_some.ensures.0 c.if-not-is_shown_by_some.false)

pub returns : goal.returns
returns c =
    let terms = c.terms-terms.result.now in
    always (ShowsOnly c.args.others.now c.args.row.now)
    (shown_all c.args.row.now.order c.args.row.now terms c.terms-terms.ensures.list c.terms-terms.ensures.coefficients (IsShownBySome c.args.others.now)
    (all_of_front (λ t. IsShownBySome c.args.others.now t.integral) terms c.loop-term.term-index c.loop-term-test.false c.loop-term.auto.term-index-end c.loop-term.invariant))
