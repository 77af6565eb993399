-- The first row that shows nothing, or something of the unit, settles the answer.
use Rattle.std.proofs.Common.{All}
use Rattle.sector_forward.specs.Elimination.{IsOutside}
use Rattle.reduction_core.proofs.CheckLemmas.{untrue, never, always, not_all, all_of_front, all_of_front_more}
use Rattle.reduction_core.proofs.acceptance.are_outside.Goals as goal

pub returns-then-not-is_outside : goal.returns-then-not-is_outside
returns-then-not-is_outside c =
    never (All (IsOutside c.args.modulus.now c.args.order c.args.unit) c.args.rows.now)
    (not_all (IsOutside c.args.modulus.now c.args.order c.args.unit) c.args.rows.now c.loop-row.row-index c.row-item.result c.loop-row-test.true c.row-item.is (untrue c.is_outside.result (IsOutside c.args.modulus.now c.args.order c.args.unit c.row-item.result) c.if-not-is_outside.true c.is_outside.ensures))

pub loop-row-preserved : goal.loop-row-preserved
loop-row-preserved c =
    all_of_front_more (IsOutside c.args.modulus.now c.args.order c.args.unit) c.args.rows.now c.loop-row.row-index c.row-item.result c.loop-row-test.true c.row-item.is c.loop-row.invariant (c.is_outside.ensures.0 c.if-not-is_outside.false)

pub returns : goal.returns
returns c = always (All (IsOutside c.args.modulus.now c.args.order c.args.unit) c.args.rows.now) (all_of_front (IsOutside c.args.modulus.now c.args.order c.args.unit) c.args.rows.now c.loop-row.row-index c.loop-row-test.false c.loop-row.auto.row-index-end c.loop-row.invariant)
