use Rattle.job_plan.proofs.SingleLemmas.{plan_single}
use Rattle.job_plan.proofs.laws.plan_is_single.Goals as goal

pub returns : goal.returns
returns c = plan_single c.one_list_ascends.ensures c.points_are_single.ensures
