use Rattle.std.proofs.Common.{◌≡◌, ◌<◌, ℕ, None, slice_index}
use Rattle.std.specs.List.{slice_index_or}
use Rattle.matrix_elimination.specs.Vectors.{IsVector}
use Rattle.matrix_elimination.specs.Solutions.{open_entry}
use Rattle.matrix_elimination.proofs.systems.open_vector.Given as goal

abbrev pub invariant-loop-place : goal.invariant-loop-place
invariant-loop-place l =
    IsVector l.modulus l.place l.entries.items × ((k : ℕ) → k < l.place → slice_index l.entries.items k ≡ open_entry l.modulus l.column k (slice_index_or l.solved k None))
