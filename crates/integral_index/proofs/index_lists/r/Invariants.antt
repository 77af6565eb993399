use Rattle.std.proofs.Common.{◌≡◌, ◌*◌, ◌≤◌, take, sum_by}
use Rattle.integral_index.specs.Integral.{positive_part}
use Rattle.integral_index.proofs.index_lists.r.Given as goal

abbrev pub invariant-loop-index : goal.invariant-loop-index
invariant-loop-index l = record {
  so_far : l.sum ≡ sum_by positive_part (take l.index-index l.indices);
  bound : l.sum ≤ 128 * l.index-index;
}
