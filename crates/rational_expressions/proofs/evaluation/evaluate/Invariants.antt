use Rattle.std.proofs.Common.{◌≡◌, ◌<◌, Some, [], length, drop}
use Rattle.std.specs.Prelude.{fold}
use Rattle.std.specs.List.{AllByRecursion}
use Rattle.rational_expressions.specs.Trees.{then_height}
use Rattle.rational_expressions.specs.Evaluation.{Outcome}
use Rattle.rational_expressions.specs.Execution.{Runs}
use Rattle.rational_expressions.proofs.evaluation.evaluate.Given as goal

abbrev pub invariant-loop-item : goal.invariant-loop-item
invariant-loop-item l = record {
  fits : fold then_height (Some (length l.stack)) (drop l.item-index l.items) ≡ Some 1;
  below : AllByRecursion (λ v. v < l.modulus) l.stack;
  runs : (r : Outcome) → Runs l.modulus l.residues (drop l.item-index l.items) l.stack r → Runs l.modulus l.residues l.items [] r;
}
