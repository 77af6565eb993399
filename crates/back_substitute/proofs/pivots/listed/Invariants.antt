-- The entries of the rows so far.
use Rattle.back_substitute.proofs.Index.{IsListingBefore}
use Rattle.back_substitute.proofs.pivots.listed.Given as goal

abbrev pub invariant-loop-place : goal.invariant-loop-place
invariant-loop-place l = IsListingBefore l.order l.rows l.place l.listed.items
