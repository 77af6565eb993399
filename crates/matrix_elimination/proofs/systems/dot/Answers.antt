use Rattle.std.proofs.Common.{◌+◌, ◌%◌, take, ap, ◌∙◌, arith}
use Rattle.matrix_elimination.specs.Vectors.{dot}
use Rattle.matrix_elimination.proofs.Weights.{dot-take-add, dot-take-min}
use Rattle.matrix_elimination.proofs.systems.dot.Goals as goal

pub loop-place-preserved : goal.loop-place-preserved
loop-place-preserved c =
    let p = c.args.modulus.now in
    (c.add-sum.ensures.value ∙ ap (λ n. (n + c.mul.result) % p) c.loop-place.invariant.0 ∙ ap (λ n. (dot (take c.loop-place.place c.args.left.now) c.args.right.now % p + n) % p) c.mul.ensures.value ∙ dot-take-add p c.args.left.now c.args.right.now c.loop-place.place, c.add-sum.ensures.below)

pub returns-clause-value : goal.returns-clause-value
returns-clause-value c = c.loop-place.invariant.0 ∙ ap (λ n. n % c.args.modulus.now) (dot-take-min c.args.left.now c.args.right.now c.loop-place.place (omega arith))
