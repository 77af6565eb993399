use Rattle.std.proofs.Common.{◌≡◌, [], length, All}
use Rattle.input_schema.proofs.Steps.{GoesOn}
use Rattle.kinematics_schema.specs.Independent.{independents}
use Rattle.family_schema.specs.FamilyFile.{ReadsPropagator}
use Rattle.family_schema.specs.Sound.{HasMomenta}
use Rattle.family_schema.proofs.propagators.read_propagators.Given as goal

abbrev pub invariant-loop-item : goal.invariant-loop-item
invariant-loop-item l = record {
  reading : GoesOn (λ found item. ReadsPropagator l.scope item) [] l.nodes l.propagators l.item-index;
  counted : length l.propagators ≡ l.item-index;
  momenta : All (λ propagator. HasMomenta (length (independents l.scope.conserved l.scope.names)) propagator.momenta) l.propagators;
}
