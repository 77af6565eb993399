use Rattle.std.proofs.Common.{ℕ, ◌<◌, List}
use Rattle.std.specs.List.{slice_index_or}
use Rattle.matrix_elimination.specs.Vectors.{IsVector}
use Rattle.row_tests.proofs.matrices.are_rows.Given as goal

abbrev pub invariant-loop-place : goal.invariant-loop-place
invariant-loop-place l = (k : ℕ) (d : List ℕ) → k < l.place → IsVector l.modulus l.width (slice_index_or l.rows k d)
