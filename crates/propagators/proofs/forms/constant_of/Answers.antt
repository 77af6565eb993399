use Rattle.std.proofs.Common.{◌*◌, ◌∙◌}
use Rattle.propagators.specs.Sums.{entry}
use Rattle.propagators.specs.Forms.{external_product}
use Rattle.propagators.proofs.SumLemmas.{more, term}
use Rattle.propagators.proofs.forms.constant_of.Goals as goal

pub loop-y-preserved : goal.loop-y-preserved
loop-y-preserved c = record {
  value = c.add-sum.ensures.value ∙ more c.args.modulus.now c.loop-y.y c.loop-y.sum c.mul.result (λ y. c.args.left * entry c.args.right.now y * external_product c.args.loops c.args.point.now c.args.x y) c.loop-y.invariant.value
      (term c.args.modulus.now c.args.left c.mul-both.result c.external_product-value.result _ c.mul.result c.loop-y.y c.args.right.now c.mul-both.ensures.value c.external_product-value.ensures.value c.mul.ensures.value);
  below = c.add-sum.ensures.below;
}
