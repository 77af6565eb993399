use Rattle.std.proofs.Common.{◌<◌, length, All, arith}
use Rattle.matrix_elimination.proofs.Solutions.{some_sum}
use Rattle.matrix_elimination.proofs.systems.open_vector.Goals as goal

pub open_entry-requires : goal.open_entry-requires
open_entry-requires c =
    some_sum (λ s. (c.args.column < length s.entries) × All (λ x. x < c.args.modulus.now) s.entries) c.args.solved.now c.loop-place.place c.index-solved-place.result c.loop-place-test.true c.index-solved-place.is
    (λ s has. let sum = c.requires.sums c.loop-place.place s has in (omega (arith, sum.size, c.requires.column), sum.below))
