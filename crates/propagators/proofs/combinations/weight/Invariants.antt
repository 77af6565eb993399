use Rattle.std.proofs.Common.{◌≡◌, ◌*◌, ◌%◌, ◌<◌}
use Rattle.matrix_elimination.specs.Elimination.{multipliers_at}
use Rattle.propagators.specs.Sums.{sum_to, entry}
use Rattle.propagators.proofs.combinations.weight.Given as goal

abbrev pub invariant-loop-x : goal.invariant-loop-x
invariant-loop-x l = record {
  value : l.weight ≡ sum_to l.x (λ x. entry l.form x * entry (multipliers_at l.place l.solved) x) % l.modulus;
  below : l.weight < l.modulus;
}
