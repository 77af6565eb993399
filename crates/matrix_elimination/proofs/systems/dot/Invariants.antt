use Rattle.std.proofs.Common.{◌≡◌, ◌<◌, ◌%◌, take}
use Rattle.matrix_elimination.specs.Vectors.{dot}
use Rattle.matrix_elimination.proofs.systems.dot.Given as goal

abbrev pub invariant-loop-place : goal.invariant-loop-place
invariant-loop-place l = (l.sum ≡ dot (take l.place l.left) l.right % l.modulus) × (l.sum < l.modulus)
