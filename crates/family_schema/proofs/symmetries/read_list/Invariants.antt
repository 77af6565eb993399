use Rattle.std.proofs.Common.{[], length, All}
use Rattle.input_schema.proofs.Steps.{GoesOn}
use Rattle.kinematics_schema.specs.Independent.{independents}
use Rattle.family_schema.specs.FamilyFile.{ReadsSymmetry}
use Rattle.family_schema.specs.Sound.{HasImages}
use Rattle.family_schema.proofs.symmetries.read_list.Given as goal

abbrev pub invariant-loop-item : goal.invariant-loop-item
invariant-loop-item l = record {
  reading : GoesOn (λ found item. ReadsSymmetry l.scope item) [] l.nodes l.symmetries l.item-index;
  images : All (HasImages (length l.scope.loops) (length (independents l.scope.conserved l.scope.names))) l.symmetries;
}
