-- The terms of the places so far were appended.
use Rattle.field_word.specs.Residues.{product_of}
use Rattle.sparse_row.specs.Terms.{AllBelow, coefficient_at}
use Rattle.propagators.specs.Sums.{sum_to}
use Rattle.ibp_generator.specs.Shifts.{lowered}
use Rattle.ibp_generator.specs.Equation.{residue_at, term_of}
use Rattle.ibp_generator.specs.Collecting.{Gains}
use Rattle.ibp_generator.proofs.terms.push_lowered.Given as goal

abbrev pub invariant-loop-k : goal.invariant-loop-k
invariant-loop-k l = record {
  below : AllBelow l.modulus l.terms.items;
  gains : Gains l.zeros l.initial.terms.items l.terms.items (λ x. sum_to l.k (λ k. coefficient_at x (term_of l.raised (lowered l.raised.indices k) (product_of l.modulus l.multiplier (residue_at l.residues k)))));
}
