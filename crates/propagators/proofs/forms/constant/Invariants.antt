use Rattle.std.proofs.Common.{◌≡◌, ◌*◌, ◌%◌, ◌<◌, length}
use Rattle.propagators.specs.Sums.{sum_to, entry}
use Rattle.propagators.specs.Forms.{external_product}
use Rattle.propagators.proofs.forms.constant.Given as goal

abbrev pub invariant-loop-x : goal.invariant-loop-x
invariant-loop-x l = record {
  value : l.sum ≡ sum_to l.x (λ x. sum_to (length l.right) (λ y. entry l.left x * entry l.right y * external_product l.loops l.point x y)) % l.modulus;
  below : l.sum < l.modulus;
}
