use Rattle.std.proofs.Common.{slice_index}
use Rattle.field_word.specs.Residues.{product_of}
use Rattle.matrix_elimination.proofs.Changes.{IsChangedBefore}
use Rattle.matrix_elimination.proofs.vectors.scale.Given as goal

abbrev pub invariant-loop-place : goal.invariant-loop-place
invariant-loop-place l =
    IsChangedBefore l.modulus l.place (λ k. product_of l.modulus l.factor (slice_index l.initial.target.items k)) l.initial.target.items l.target.items
