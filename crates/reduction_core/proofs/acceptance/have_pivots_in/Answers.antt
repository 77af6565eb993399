-- The first row without a pivot of the unit settles the answer.
use Rattle.std.proofs.Common.{All}
use Rattle.sector_forward.specs.Elimination.{IsRuleOf}
use Rattle.reduction_core.proofs.CheckLemmas.{untrue, never, always, not_all, all_of_front, all_of_front_more}
use Rattle.reduction_core.proofs.acceptance.have_pivots_in.Goals as goal

pub returns-then-not-is_rule : goal.returns-then-not-is_rule
returns-then-not-is_rule c =
    never (All (IsRuleOf c.args.modulus.now c.args.order c.args.unit) c.args.rows.now)
    (not_all (IsRuleOf c.args.modulus.now c.args.order c.args.unit) c.args.rows.now c.loop-row.row-index c.row-item.result c.loop-row-test.true c.row-item.is (untrue c.is_rule.result (IsRuleOf c.args.modulus.now c.args.order c.args.unit c.row-item.result) c.if-not-is_rule.true c.is_rule.ensures))

pub loop-row-preserved : goal.loop-row-preserved
loop-row-preserved c =
    all_of_front_more (IsRuleOf c.args.modulus.now c.args.order c.args.unit) c.args.rows.now c.loop-row.row-index c.row-item.result c.loop-row-test.true c.row-item.is c.loop-row.invariant (c.is_rule.ensures.0 c.if-not-is_rule.false)

pub returns : goal.returns
returns c = always (All (IsRuleOf c.args.modulus.now c.args.order c.args.unit) c.args.rows.now) (all_of_front (IsRuleOf c.args.modulus.now c.args.order c.args.unit) c.args.rows.now c.loop-row.row-index c.loop-row-test.false c.loop-row.auto.row-index-end c.loop-row.invariant)
