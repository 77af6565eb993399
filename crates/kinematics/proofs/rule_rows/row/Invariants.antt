use Rattle.std.proofs.Common.{◌≡◌, ◌++◌, drop}
use Rattle.kinematics.specs.RuleRows.{row_of}
use Rattle.kinematics.proofs.rule_rows.row.Given as goal

abbrev pub invariant-loop-place : goal.invariant-loop-place
invariant-loop-place l = l.entries.items ++ row_of l.modulus (drop l.place l.left) (drop l.place l.right) ≡ row_of l.modulus l.left l.right
