-- The images so far are sent to places, no two to the same.
use Rattle.symmetry_maps.proofs.SendingLemmas.{AreSent}
use Rattle.symmetry_maps.proofs.checking.places_of.Given as goal

abbrev pub invariant-loop-image : goal.invariant-loop-image
invariant-loop-image l = AreSent l.images l.forms l.image-index l.places.items
