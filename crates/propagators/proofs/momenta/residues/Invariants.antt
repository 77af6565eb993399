use Rattle.std.proofs.Common.{◌≡◌, map, take, All, ◌<◌}
use Rattle.kinematics.specs.Rules.{residue_of}
use Rattle.propagators.proofs.momenta.residues.Given as goal

abbrev pub invariant-loop-coefficient : goal.invariant-loop-coefficient
invariant-loop-coefficient l = record {
  value : l.residues.items ≡ map (residue_of l.modulus) (take l.coefficient-index l.coefficients);
  below : All (λ c. c < l.modulus) l.residues.items;
}
