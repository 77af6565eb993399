use Rattle.kinematics.proofs.RefusedRules.{clash_has_no_table, open_has_no_point}
use Rattle.kinematics.proofs.laws.refused_rules_have_no_point.Goals as goal

pub returns-clause-clash : goal.returns-clause-clash
returns-clause-clash c = clash_has_no_table

pub returns-clause-open : goal.returns-clause-open
returns-clause-open c = open_has_no_point
