use Rattle.std.proofs.Common.{◌≡◌, ◌<◌, map, take, All}
use Rattle.kinematics.specs.Rules.{residue_of}
use Rattle.kinematics.proofs.rule_rows.residues.Given as goal

abbrev pub invariant-loop-number : goal.invariant-loop-number
invariant-loop-number l = (l.residues.items ≡ map (residue_of l.modulus) (take l.number-index l.numbers)) × All (λ x. x < l.modulus) l.residues.items
