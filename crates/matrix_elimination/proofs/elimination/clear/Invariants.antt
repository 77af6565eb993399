use Rattle.std.proofs.Common.{◌≡◌, ℕ, ◌<◌, ◌≤◌, length, None}
use Rattle.std.specs.List.{slice_index_or}
use Rattle.matrix_elimination.specs.Steps.{IsCleared}
use Rattle.matrix_elimination.proofs.elimination.clear.Given as goal

abbrev pub invariant-loop-place : goal.invariant-loop-place
invariant-loop-place l = record {
  columns : length l.solved.items ≡ length l.initial.solved.items;
  cleared : (c : ℕ) → c < l.place → IsCleared l.modulus l.column l.pivot (slice_index_or l.initial.solved.items c None) (slice_index_or l.solved.items c None);
  same : (c : ℕ) → l.place ≤ c → slice_index_or l.solved.items c None ≡ slice_index_or l.initial.solved.items c None;
}
