use Rattle.std.proofs.Common.{◌≡◌, ◌*◌, ◌%◌, ◌<◌}
use Rattle.propagators.specs.Sums.{sum_to, entry}
use Rattle.propagators.specs.Momenta.{replacement}
use Rattle.propagators.proofs.images.replaced_at.Given as goal

abbrev pub invariant-loop-place : goal.invariant-loop-place
invariant-loop-place l = record {
  value : l.sum ≡ sum_to l.place (λ n. entry l.momentum n * replacement l.images n l.number) % l.modulus;
  below : l.sum < l.modulus;
}
