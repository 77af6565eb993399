use Rattle.std.proofs.Common.{◌≤◌, length}
use Rattle.matrix_elimination.specs.Steps.{IsPartial}
use Rattle.matrix_elimination.proofs.elimination.eliminate.Given as goal

abbrev pub invariant-loop-place : goal.invariant-loop-place
invariant-loop-place l = (l.place ≤ length l.rows) × IsPartial l.modulus l.width l.rows l.place l.eliminated

abbrev pub decreases-loop-place : goal.decreases-loop-place
decreases-loop-place l = l.place
