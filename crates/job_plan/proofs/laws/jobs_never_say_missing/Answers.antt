use Rattle.job_plan.proofs.Present.{plans_present}
use Rattle.job_plan.proofs.laws.jobs_never_say_missing.Goals as goal

pub returns-clause-plans : goal.returns-clause-plans
returns-clause-plans c = plans_present c.reading_never_says_missing.ensures c.points_never_say_missing.ensures
