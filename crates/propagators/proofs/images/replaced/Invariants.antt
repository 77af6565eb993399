use Rattle.std.proofs.Common.{◌≡◌, ◌*◌, ◌%◌, ◌<◌, All, length}
use Rattle.propagators.specs.Sums.{sum_to, entry}
use Rattle.propagators.specs.Momenta.{listed, replacement}
use Rattle.propagators.proofs.images.replaced.Given as goal

abbrev pub invariant-loop-place : goal.invariant-loop-place
invariant-loop-place l = record {
  size : length l.coefficients.items ≡ l.place;
  value : l.coefficients.items ≡ listed l.place (λ x. sum_to (length l.momentum.items) (λ n. entry l.momentum.items n * replacement l.images n x) % l.modulus);
  below : All (λ c. c < l.modulus) l.coefficients.items;
}
