-- The terms of the denominators so far were appended.
use Rattle.sparse_row.specs.Terms.{AllBelow}
use Rattle.ibp_generator.specs.Collecting.{AreAppended}
use Rattle.ibp_generator.proofs.equations.push_denominators.Given as goal

abbrev pub invariant-loop-place : goal.invariant-loop-place
invariant-loop-place l = record {
  below : AllBelow l.modulus l.terms.items;
  appended : AreAppended l.basis l.loop_number l.momentum_number l.seed l.zeros l.place l.initial.terms.items l.terms.items;
}
