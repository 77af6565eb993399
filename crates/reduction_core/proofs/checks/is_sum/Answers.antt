-- One more multiple is added.
use Rattle.std.proofs.Common.{refl}
use Rattle.sector_forward.proofs.StepLemmas.{IsRow-in}
use Rattle.reduction_core.proofs.CheckLemmas.{IsSumSoFar-start, IsSumSoFar-more, sum_tested, positive_modulus}
use Rattle.reduction_core.proofs.checks.is_sum.Goals as goal

pub loop-k-init : goal.loop-k-init
loop-k-init c =
    IsSumSoFar-start c.args.modulus.now c.args.order c.args.rows.now c.args.multipliers.now c.new-sum.result c.new-sum.ensures.empty (c.new-sum.ensures.row c.args.modulus.now (positive_modulus c.args.modulus.now c.args.order c.args.row.now c.requires.row))

pub loop-k-preserved : goal.loop-k-preserved
loop-k-preserved c =
    let s = c.loop-k.invariant in
    IsSumSoFar-more c.args.modulus.now c.args.order c.args.rows.now c.args.multipliers.now c.loop-k.k c.loop-k.sum c.add_multiple.new.self c.index-rows-k.result _ c.loop-k-test.true c.index-rows-k.is refl s
    (IsRow-in c.args.modulus.now c.loop-k.sum.order c.args.order c.add_multiple.new.self s.row_is.ordered c.add_multiple.ensures.row) c.in_ok-add_multiple.ensures.sum

pub returns : goal.returns
returns c =
    sum_tested c.args.modulus.now c.args.order c.args.rows.now c.args.multipliers.now c.loop-k.k c.loop-k.sum c.args.row.now c.equals.result c.loop-k-test.false c.loop-k.auto.k-end c.loop-k.invariant c.requires.row c.equals.ensures
