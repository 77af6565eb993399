use Rattle.std.proofs.Common.{◌≡◌, ℕ, ◌<◌, ◌≤◌, length, slice_index, All}
use Rattle.matrix_elimination.specs.Vectors.{unit_at}
use Rattle.matrix_elimination.proofs.vectors.Vector.unit.Given as goal

abbrev pub invariant-loop-i : goal.invariant-loop-i
invariant-loop-i l = (length l.entries.items ≡ l.i) × All (λ x. x ≤ 1) l.entries.items × ((k : ℕ) → k < l.i → slice_index l.entries.items k ≡ unit_at l.place k)
