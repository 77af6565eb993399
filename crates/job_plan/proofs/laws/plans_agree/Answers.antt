use Rattle.job_plan.proofs.AgreementLemmas.{plans_agree, plans_name_divisors}
use Rattle.job_plan.proofs.laws.plans_agree.Goals as goal

pub returns-clause-agree : goal.returns-clause-agree
returns-clause-agree c = plans_agree c.one_list_ascends.ensures c.no_list_is_longer.ensures c.points_agree.ensures.agree

pub returns-clause-divisors : goal.returns-clause-divisors
returns-clause-divisors c = plans_name_divisors c.points_agree.ensures.divisors
