use Rattle.std.proofs.Common.{◌≡◌, ◌≤◌, take, count_by}
use Rattle.integral_index.specs.Integral.{is_positive}
use Rattle.integral_index.proofs.index_lists.t.Given as goal

abbrev pub invariant-loop-index : goal.invariant-loop-index
invariant-loop-index l = record {
  so_far : l.count ≡ count_by is_positive (take l.index-index l.indices);
  bound : l.count ≤ l.index-index;
}
