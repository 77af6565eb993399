-- The rows have the sum of those that were given, and one is there.
use Rattle.std.proofs.Common.{length}
use Rattle.back_substitute.proofs.Pairs.{IsSumming}
use Rattle.back_substitute.proofs.sums.sum_of.Given as goal

abbrev pub invariant-loop-alloc : goal.invariant-loop-alloc
invariant-loop-alloc l = IsSumming l.modulus l.order l.fn.rows.items l.rows.items

abbrev pub decreases-loop-alloc : goal.decreases-loop-alloc
decreases-loop-alloc l = length l.rows.items
