use Rattle.std.proofs.Common.{◌+◌, ◌-◌, ◌≤◌, length, take, drop}
use Rattle.sparse_row.proofs.TermMerge.{Merging}
use Rattle.sparse_row.proofs.terms.sum_with_multiple.Given as goal

abbrev pub invariant-loop-i : goal.invariant-loop-i
invariant-loop-i l = record {
  within : l.i ≤ length l.terms;
  other_within : l.j ≤ length l.others;
  merging : Merging l.modulus l.order l.factor l.sum.items (take l.i l.terms) (drop l.i l.terms) (take l.j l.others) (drop l.j l.others);
}

abbrev pub decreases-loop-i : goal.decreases-loop-i
decreases-loop-i l = (length l.terms - l.i) + (length l.others - l.j)
