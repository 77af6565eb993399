-- The sums of pairs so far and the rows that are left have the sum of all.
use Rattle.std.proofs.Common.{length}
use Rattle.back_substitute.proofs.Pairs.{IsPairing}
use Rattle.back_substitute.proofs.sums.paired.Given as goal

abbrev pub invariant-loop-row : goal.invariant-loop-row
invariant-loop-row l = IsPairing l.modulus l.order l.fn.rows.items l.made.items l.rest.items

abbrev pub decreases-loop-row : goal.decreases-loop-row
decreases-loop-row l = length l.rest.items
