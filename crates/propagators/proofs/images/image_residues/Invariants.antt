use Rattle.std.proofs.Common.{◌≡◌, map, take, All}
use Rattle.matrix_elimination.specs.Vectors.{IsVector}
use Rattle.propagators.specs.Momenta.{residues_of}
use Rattle.propagators.proofs.images.image_residues.Given as goal

abbrev pub invariant-loop-image : goal.invariant-loop-image
invariant-loop-image l = record {
  value : l.vectors.items ≡ map (residues_of l.modulus) (take l.image-index l.images);
  vectors : All (IsVector l.modulus l.width) l.vectors.items;
}
