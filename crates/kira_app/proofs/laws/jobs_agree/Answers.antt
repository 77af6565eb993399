use Rattle.kira_app.proofs.Agreement.{jobs_agree, jobs_name_divisors}
use Rattle.kira_app.proofs.Causes.{jobs_have_one_modulus}
use Rattle.kira_app.proofs.laws.jobs_agree.Goals as goal

pub returns-clause-agree : goal.returns-clause-agree
returns-clause-agree c = jobs_agree c.outline_is_single.ensures c.outlines_have_a_modulus.ensures.modulus c.plans_agree.ensures.agree

pub returns-clause-divisors : goal.returns-clause-divisors
returns-clause-divisors c = jobs_name_divisors c.outlines_have_a_modulus.ensures.modulus c.plans_agree.ensures.divisors

pub returns-clause-modulus : goal.returns-clause-modulus
returns-clause-modulus c = jobs_have_one_modulus c.outline_is_single.ensures
