-- None of the forms so far is the image.
use Rattle.std.proofs.Common.{◌≤◌, ℕ}
use Rattle.symmetry_maps.specs.Symmetry.{IsFormAt}
use Rattle.symmetry_maps.proofs.checking.number_of.Given as goal

abbrev pub invariant-loop-place : goal.invariant-loop-place
invariant-loop-place l = (number : ℕ) → number ≤ l.place → ¬ (IsFormAt l.forms l.image number)
