use Rattle.std.proofs.Common.{◌≡◌, [], length, All}
use Rattle.input_schema.proofs.Steps.{GoesOn}
use Rattle.kinematics_schema.specs.Independent.{independents}
use Rattle.family_schema.specs.FamilyFile.{ReadsImage}
use Rattle.family_schema.proofs.symmetries.read_images.Given as goal

abbrev pub invariant-loop-name : goal.invariant-loop-name
invariant-loop-name l = record {
  reading : GoesOn (λ found loop. ReadsImage l.scope l.pairs (length found) loop) [] l.names l.images l.name-index;
  counted : length l.images ≡ l.name-index;
  momenta : All (λ image. length image ≡ length (independents l.scope.conserved l.scope.names)) l.images;
}
