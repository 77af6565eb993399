use Rattle.std.proofs.Common.{arith}
use Rattle.matrix_elimination.proofs.Ends.{partial_open, elimination_of}
use Rattle.matrix_elimination.proofs.elimination.eliminate.Goals as goal

pub loop-place-init : goal.loop-place-init
loop-place-init c =
    (omega arith, partial_open c.args.modulus.now c.args.width c.args.rows.now c.in_ok-eliminated.eliminated c.in_ok-eliminated.ensures.columns c.in_ok-eliminated.ensures.open c.in_ok-eliminated.ensures.cancelled)

pub returns-clause-elimination : goal.returns-clause-elimination
returns-clause-elimination c = elimination_of c.args.modulus.now c.args.width c.args.rows.now c.loop-place.place c.loop-place.eliminated c.loop-place-test.false c.loop-place.invariant.1
