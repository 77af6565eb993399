use Rattle.std.proofs.Common.{◌≡◌, map, take, All}
use Rattle.matrix_elimination.specs.Vectors.{IsVector}
use Rattle.kinematics.specs.Points.{product_count}
use Rattle.kinematics.specs.RuleRows.{rule_row_of}
use Rattle.kinematics.proofs.rule_rows.rule_rows.Given as goal

abbrev pub invariant-loop-rule : goal.invariant-loop-rule
invariant-loop-rule l = (l.rows.items ≡ map (rule_row_of l.modulus) (take l.rule-index l.rules)) × All (IsVector l.modulus (product_count l.externals)) l.rows.items
