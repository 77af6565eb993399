use Rattle.std.proofs.Common.{◌<◌, length, arith}
use Rattle.std.proofs.lemmas.Bool.Decides.{nat_tests}
use Rattle.table_text.proofs.DistinctLemmas.{last_tells}
use Rattle.table_text.proofs.distinct.is_last.Goals as goal

pub returns-then-not-is_empty : goal.returns-then-not-is_empty
returns-then-not-is_empty c =
    let some : 0 < length c.args.kept.now = grind (arith, nat_tests, c.if-not-is_empty.ensures) in
    last_tells c.args.order c.args.kept.now c.index-kept-kept.result c.args.integral.now c.is_eq.result c.compare.result some c.index-kept-kept.is c.compare.ensures c.is_eq.ensures
