use Rattle.std.proofs.Common.{◌≡◌, ◌*◌, ◌%◌, ◌<◌}
use Rattle.propagators.specs.Sums.{sum_to, entry}
use Rattle.propagators.specs.Forms.{external_product}
use Rattle.propagators.proofs.forms.constant_of.Given as goal

abbrev pub invariant-loop-y : goal.invariant-loop-y
invariant-loop-y l = record {
  value : l.sum ≡ sum_to l.y (λ y. l.left * entry l.right y * external_product l.loops l.point l.x y) % l.modulus;
  below : l.sum < l.modulus;
}
