use Rattle.job_point.proofs.Agreement.{points_agree}
use Rattle.job_point.proofs.Divisors.{points_name_divisors}
use Rattle.job_point.proofs.laws.points_agree.Goals as goal

pub returns-clause-agree : goal.returns-clause-agree
returns-clause-agree c = points_agree c.values_are_unique.ensures c.refused_rules_have_no_point.ensures.clash c.symmetry_is_unique.ensures c.fault_refutes_symmetry.ensures

pub returns-clause-divisors : goal.returns-clause-divisors
returns-clause-divisors c = points_name_divisors
