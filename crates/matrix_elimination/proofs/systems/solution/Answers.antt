use Rattle.std.proofs.Common.{◌<◌, All}
use Rattle.matrix_elimination.proofs.Solutions.{some_sum}
use Rattle.matrix_elimination.proofs.systems.solution.Goals as goal

pub unknown-requires-clause-sum : goal.unknown-requires-clause-sum
unknown-requires-clause-sum c =
    some_sum (λ s. All (λ x. x < c.args.modulus.now) s.multipliers) c.args.solved.now c.loop-place.place c.index-solved-place.result c.loop-place-test.true c.index-solved-place.is
    (λ s has. (c.requires.sums c.loop-place.place s has).multipliers.below)
