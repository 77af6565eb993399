use Rattle.std.proofs.Common.{arith}
use Rattle.integral_index.proofs.IndexLists.{t_of-le-r_of}
use Rattle.integral_index.proofs.index_lists.dots.Goals as goal

pub overflow_sub-result : goal.overflow_sub-result
overflow_sub-result c = omega (arith, t_of-le-r_of c.args.indices.now)
