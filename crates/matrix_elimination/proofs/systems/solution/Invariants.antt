use Rattle.std.proofs.Common.{◌≡◌, take}
use Rattle.matrix_elimination.specs.Solutions.{solution_of}
use Rattle.matrix_elimination.proofs.systems.solution.Given as goal

abbrev pub invariant-loop-place : goal.invariant-loop-place
invariant-loop-place l = l.unknowns.items ≡ solution_of l.modulus (take l.place l.solved) l.values
