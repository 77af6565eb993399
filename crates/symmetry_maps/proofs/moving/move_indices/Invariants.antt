-- The indices so far were written.
use Rattle.symmetry_maps.proofs.MovedLemmas.{AreWritten}
use Rattle.symmetry_maps.proofs.moving.move_indices.Given as goal

abbrev pub invariant-loop-place : goal.invariant-loop-place
invariant-loop-place l = AreWritten l.place l.places l.indices l.moved
