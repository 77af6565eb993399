use Rattle.std.proofs.Common.{◌≡◌, ℕ, ◌<◌, ◌%◌, List}
use Rattle.std.specs.List.{slice_index_or}
use Rattle.matrix_elimination.specs.Vectors.{dot}
use Rattle.matrix_elimination.proofs.systems.first_clash.Given as goal

abbrev pub invariant-loop-place : goal.invariant-loop-place
invariant-loop-place l = (k : ℕ) (d : List ℕ) → k < l.place → dot (slice_index_or l.cancelled k d) l.values % l.modulus ≡ 0
