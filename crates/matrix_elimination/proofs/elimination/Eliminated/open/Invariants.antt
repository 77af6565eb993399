use Rattle.std.proofs.Common.{◌≡◌, ℕ, length, None}
use Rattle.std.specs.List.{slice_index_or}
use Rattle.matrix_elimination.proofs.elimination.Eliminated.open.Given as goal

abbrev pub invariant-loop : goal.invariant-loop
invariant-loop l = (length l.solved.items ≡ l.counter) × ((c : ℕ) → slice_index_or l.solved.items c None ≡ None)
