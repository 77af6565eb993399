use Rattle.std.proofs.Common.{[], length, All}
use Rattle.input_schema.proofs.Steps.{GoesOn}
use Rattle.kinematics_schema.specs.Independent.{independents}
use Rattle.kinematics_schema.specs.KinematicsFile.{ReadsRule}
use Rattle.kinematics_schema.specs.Sound.{HasMomenta}
use Rattle.kinematics_schema.proofs.rules.read_list.Given as goal

abbrev pub invariant-loop-item : goal.invariant-loop-item
invariant-loop-item l = record {
  reading : GoesOn (λ found item. ReadsRule l.externals.names l.externals.conserved l.invariants item) [] l.nodes l.rules l.item-index;
  momenta : All (HasMomenta (length (independents l.externals.conserved l.externals.names))) l.rules;
}
