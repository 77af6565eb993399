use Rattle.std.proofs.Common.{◌+◌, ◌*◌, ◌%◌, ◌∙◌, length, ap, sym}
use Rattle.propagators.specs.Sums.{sum_to, entry}
use Rattle.propagators.specs.Forms.{external_product}
use Rattle.propagators.proofs.SumLemmas.{more, entry-next}
use Rattle.propagators.proofs.forms.constant.Goals as goal

pub loop-x-preserved : goal.loop-x-preserved
loop-x-preserved c = record {
  value = c.add-sum.ensures.value ∙ more c.args.modulus.now c.loop-x.x c.loop-x.sum c.constant_of.result (λ x. sum_to (length c.args.right.now) (λ y. entry c.args.left.now x * entry c.args.right.now y * external_product c.args.loops c.args.point.now x y)) c.loop-x.invariant.value
      (c.constant_of.ensures.value ∙ ap (λ a. sum_to (length c.args.right.now) (λ y. a * entry c.args.right.now y * external_product c.args.loops c.args.point.now (c.loop-x.x + 1) y) % c.args.modulus.now) (sym (entry-next c.args.left.now c.loop-x.x)));
  below = c.add-sum.ensures.below;
}
