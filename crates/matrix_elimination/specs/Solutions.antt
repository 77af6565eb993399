-- What an elimination says of a linear system.
use Rattle.std.specs.Prelude.{◌≡◌, ℕ, ◌%◌, List, map, Option, Some, None}
use Rattle.field_word.specs.Residues.{opposite_of}
use Rattle.matrix_elimination.specs.declared.elimination.Solved.{Solved}
use Rattle.matrix_elimination.specs.declared.elimination.EliminationFault.{EliminationFault}
use Rattle.matrix_elimination.specs.declared.elimination.EliminationFault.TheVariants as elimination_fault
use Rattle.matrix_elimination.specs.declared.systems.SystemFault.{SystemFault}
use Rattle.matrix_elimination.specs.declared.systems.SystemFault.TheVariants as system_fault
use Rattle.matrix_elimination.specs.Vectors.{dot, unit_at}
use Rattle.matrix_elimination.specs.Elimination.{entry_at}

-- the unknown of a column: what its sum of rows makes of the values, and 0 where the column is open
abbrev pub unknown_at : ℕ → List ℕ → Option Solved → ℕ
unknown_at p values None = 0
unknown_at p values (Some sum) = dot sum.multipliers values % p

abbrev pub solution_of : ℕ → List (Option Solved) → List ℕ → List ℕ
solution_of p solved values = map (λ s. unknown_at p values s) solved

-- on the vector of an open column: minus what the column at this place has there; 1 at the open column itself
abbrev pub open_entry : ℕ → ℕ → ℕ → Option Solved → ℕ
open_entry p column place None = unit_at column place
open_entry p column place (Some sum) = opposite_of p (entry_at column (Some sum))

-- a fault of the elimination is one of the system
abbrev pub FaultGives : EliminationFault → SystemFault → Type 0
FaultGives (elimination_fault.Composite fault) e = e ≡ system_fault.Composite fault
FaultGives elimination_fault.OutOfMemory e = e ≡ system_fault.OutOfMemory
