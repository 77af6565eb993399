use Rattle.std.proofs.Common.{◌≡◌, ◌*◌, ◌≤◌, take, sum_by}
use Rattle.integral_index.specs.Integral.{negative_part}
use Rattle.integral_index.proofs.index_lists.s.Given as goal

abbrev pub invariant-loop-index : goal.invariant-loop-index
invariant-loop-index l = record {
  so_far : l.sum ≡ sum_by negative_part (take l.index-index l.indices);
  bound : l.sum ≤ 128 * l.index-index;
}
