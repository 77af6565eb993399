use Rattle.std.proofs.Common.{◌≢◌, ℕ, ◌<◌, Option, None}
use Rattle.std.specs.List.{slice_index_or}
use Rattle.matrix_elimination.specs.declared.elimination.Solved.{Solved}
use Rattle.matrix_elimination.proofs.systems.first_open.Given as goal

abbrev pub invariant-loop-column : goal.invariant-loop-column
invariant-loop-column l = (k : ℕ) (d : Option Solved) → k < l.column → slice_index_or l.solved k d ≢ None
