use Rattle.std.proofs.Common.{slice_index}
use Rattle.field_word.specs.Residues.{sum_of, product_of}
use Rattle.matrix_elimination.proofs.Changes.{IsChangedBefore}
use Rattle.matrix_elimination.proofs.vectors.add_multiple.Given as goal

abbrev pub invariant-loop-place : goal.invariant-loop-place
invariant-loop-place l =
    IsChangedBefore l.modulus l.place (λ k. sum_of l.modulus (slice_index l.initial.target.items k) (product_of l.modulus l.factor (slice_index l.other k))) l.initial.target.items l.target.items
