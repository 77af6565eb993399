use Rattle.std.proofs.Common.{◌≡◌, ◌*◌, ◌%◌, ◌<◌}
use Rattle.propagators.specs.Sums.{sum_to, entry}
use Rattle.propagators.specs.Combinations.{constants_of}
use Rattle.propagators.proofs.combinations.constant_of.Given as goal

abbrev pub invariant-loop-place : goal.invariant-loop-place
invariant-loop-place l = record {
  value : l.sum ≡ sum_to l.place (λ k. entry l.weights k * entry (constants_of l.forms) k) % l.modulus;
  below : l.sum < l.modulus;
}
