use Rattle.std.proofs.Common.{◌≡◌, ◌%◌, ◌<◌, ℕ, length, All, get_or}
use Rattle.matrix_elimination.specs.Vectors.{dot}
use Rattle.matrix_elimination.specs.Elimination.{multipliers_at}
use Rattle.propagators.proofs.combinations.weights.Given as goal

abbrev pub invariant-loop-place : goal.invariant-loop-place
invariant-loop-place l = record {
  size : length l.weights.items ≡ l.place;
  below : All (λ c. c < l.modulus) l.weights.items;
  value : (k : ℕ) → k < l.place → get_or l.weights.items k 0 ≡ dot l.form (multipliers_at k l.solved) % l.modulus;
}
