use Rattle.std.proofs.Common.{◌≡◌, [], length}
use Rattle.input_schema.specs.Readings.{Is}
use Rattle.input_schema.proofs.Steps.{GoesOn}
use Rattle.kinematics_schema.specs.KinematicsFile.{invariant}
use Rattle.kinematics_schema.proofs.invariants.read_list.Given as goal

abbrev pub invariant-loop-item : goal.invariant-loop-item
invariant-loop-item l = record {
  reading : GoesOn (λ found item. Is (invariant l.externals found item)) [] l.nodes l.invariants l.item-index;
  counted : length l.invariants ≡ l.item-index;
}
