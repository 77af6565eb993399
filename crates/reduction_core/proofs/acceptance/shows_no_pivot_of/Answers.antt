-- The first rule whose pivot is shown settles the answer.
use Rattle.reduction_core.specs.Acceptance.{IsClearOf}
use Rattle.back_substitute.specs.Substitution.{ShowsNoPivotOf}
use Rattle.reduction_core.proofs.CheckLemmas.{untrue, never, always, not_all, all_of_front, all_of_front_more}
use Rattle.reduction_core.proofs.RowTests.{each_of, all_from_members}
use Rattle.reduction_core.proofs.acceptance.shows_no_pivot_of.Goals as goal

pub returns-then-not-is_clear_of : goal.returns-then-not-is_clear_of
returns-then-not-is_clear_of c =
    never (ShowsNoPivotOf c.args.order c.args.rules.now c.args.row.now)
    (λ none.
    not_all (λ rule. IsClearOf c.args.order rule c.args.row.now) c.args.rules.now c.loop-rule.rule-index c.rule-item.result c.loop-rule-test.true c.rule-item.is
    (untrue c.is_clear_of.result (IsClearOf c.args.order c.rule-item.result c.args.row.now) c.if-not-is_clear_of.true c.is_clear_of.ensures)
    (all_from_members (λ rule. IsClearOf c.args.order rule c.args.row.now) c.args.rules.now (λ rule has x pivot. none rule x has pivot)))

pub loop-rule-preserved : goal.loop-rule-preserved
loop-rule-preserved c =
    all_of_front_more (λ rule. IsClearOf c.args.order rule c.args.row.now) c.args.rules.now c.loop-rule.rule-index c.rule-item.result c.loop-rule-test.true c.rule-item.is c.loop-rule.invariant (c.is_clear_of.ensures.0 c.if-not-is_clear_of.false)

pub returns : goal.returns
returns c =
    let all = all_of_front (λ rule. IsClearOf c.args.order rule c.args.row.now) c.args.rules.now c.loop-rule.rule-index c.loop-rule-test.false c.loop-rule.auto.rule-index-end c.loop-rule.invariant in
    always (ShowsNoPivotOf c.args.order c.args.rules.now c.args.row.now)
    (λ rule x has pivot. each_of (λ r. IsClearOf c.args.order r c.args.row.now) c.args.rules.now rule all has x pivot)
