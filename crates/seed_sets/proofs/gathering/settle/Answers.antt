use Rattle.std.proofs.Common.{refl, arith}
use Rattle.seed_sets.proofs.gathering.settle.Goals as goal

pub returns-then-len-limit-clause-many : goal.returns-then-len-limit-clause-many
returns-then-len-limit-clause-many c = (
  refl,
  record {
    some = c.ascend.new.found.items;
    ascends = c.ascend.ensures.ascends;
    more = omega arith;
    each = λ x m. (c.ascend.ensures.members x).0 m;
  },
)
