use Rattle.std.proofs.Common.{◌≡◌, [], length}
use Rattle.input_schema.specs.Readings.{Is}
use Rattle.input_schema.proofs.Steps.{GoesOn}
use Rattle.family_schema.specs.FamilyFile.{loop_name}
use Rattle.family_schema.proofs.loops.read_loops.Given as goal

abbrev pub invariant-loop-item : goal.invariant-loop-item
invariant-loop-item l = record {
  reading : GoesOn (λ found item. Is (loop_name l.kinematics found item)) [] l.nodes l.loops l.item-index;
  counted : length l.loops ≡ l.item-index;
}
