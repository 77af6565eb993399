use Rattle.std.proofs.Common.{◌<◌, pos, refl, get_or, length, arith}
use Rattle.std.proofs.lemmas.Grind.{common_steps}
use Rattle.input_schema.proofs.SmallProducts.{kept}
use Rattle.input_schema.proofs.MomentumSteps.{one_more_sum, no_more_sums, large_sum, one_more_small, one_more_coefficient}
use Rattle.input_schema.proofs.momenta.plus_times.Goals as goal

pub returns-in-None-clause-refused : goal.returns-in-None-clause-refused
returns-in-None-clause-refused c =
    let at : c.loop-i.i < length c.args.coefficients.now = omega arith in
    let in_image : c.loop-i.i < length c.args.image.now = omega arith in
    let factor = kept c.args.factor c.requires.factor in
    let coefficient = kept (get_or c.args.coefficients.now c.loop-i.i (pos 0)) (c.requires.coefficients c.loop-i.i (pos 0) at) in
    let other = kept (get_or c.args.image.now c.loop-i.i (pos 0)) (c.requires.image c.loop-i.i (pos 0) in_image) in
    let large = simp (factor, coefficient, other) at c.in-None.ensures.sum in
    let rest = simp factor at c.loop-i.invariant.rest in
    let bad = large_sum c.args.factor c.args.coefficients.now c.args.image.now c.loop-i.sums.items _ c.loop-i.i at in_image large rest in
    rw (c.fault.ensures, bad) refl

pub loop-i-preserved : goal.loop-i-preserved
loop-i-preserved c =
    let at : c.loop-i.i < length c.args.coefficients.now = omega arith in
    let in_image : c.loop-i.i < length c.args.image.now = omega arith in
    let factor = kept c.args.factor c.requires.factor in
    let coefficient = kept (get_or c.args.coefficients.now c.loop-i.i (pos 0)) (c.requires.coefficients c.loop-i.i (pos 0) at) in
    let other = kept (get_or c.args.image.now c.loop-i.i (pos 0)) (c.requires.image c.loop-i.i (pos 0) in_image) in
    let same = kept c.in-Some.sum c.in-Some.ensures.coefficient in
    let sum = simp (factor, coefficient, other) at c.in-Some.ensures.sum in
    let rest = simp factor at c.loop-i.invariant.rest in
    let pushed = simp same at c.in_ok-push-in-Some.ensures.items in
    record {
      rest = rw (factor, pushed) (one_more_sum c.args.factor c.in-Some.sum c.args.coefficients.now c.args.image.now c.loop-i.sums.items _ c.loop-i.i at in_image sum rest);
      small = rw pushed (one_more_small c.loop-i.sums.items c.in-Some.sum c.loop-i.invariant.small c.in-Some.ensures.small);
      in_range = rw pushed (one_more_coefficient c.loop-i.sums.items c.in-Some.sum c.loop-i.invariant.in_range c.in-Some.ensures.coefficient);
      counted = rw pushed (grind (arith, common_steps));
    }

pub returns-clause-sums : goal.returns-clause-sums
returns-clause-sums c =
    let factor = kept c.args.factor c.requires.factor in
    let rest = simp factor at c.loop-i.invariant.rest in
    let e = no_more_sums c.args.factor c.args.coefficients.now c.args.image.now c.loop-i.sums.items _ c.loop-i.i (omega arith) rest in
    rw (e, c.loop-i.invariant.small) refl
