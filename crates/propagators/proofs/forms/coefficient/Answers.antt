use Rattle.std.proofs.Common.{arith}
use Rattle.propagators.proofs.Expansion.{square_at, pair_at}
use Rattle.propagators.proofs.forms.coefficient.Goals as goal

pub returns-then-i-q-clause-value : goal.returns-then-i-q-clause-value
returns-then-i-q-clause-value c =
    square_at c.args.modulus.now c.args.left.now c.args.right.now c.args.i c.args.q c.mul-first.result c.if-i-q.true c.requires.from_1 c.requires.within (omega arith) c.mul-first.ensures.value

pub returns-else-i-q-clause-value : goal.returns-else-i-q-clause-value
returns-else-i-q-clause-value c =
    pair_at c.args.modulus.now c.args.left.now c.args.right.now c.args.i c.args.q c.mul-first.result c.mul.result c.add.result c.if-i-q.false c.requires.from_1 c.requires.within (omega arith) c.requires.second_from_1 c.requires.second_within (omega arith) c.mul-first.ensures.value c.mul.ensures.value c.add.ensures.value
