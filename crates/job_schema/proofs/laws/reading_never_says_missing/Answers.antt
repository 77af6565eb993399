use Rattle.job_schema.proofs.Present.{jobs_present, points_present}
use Rattle.job_schema.proofs.laws.reading_never_says_missing.Goals as goal

pub returns-clause-jobs : goal.returns-clause-jobs
returns-clause-jobs c = jobs_present

pub returns-clause-points : goal.returns-clause-points
returns-clause-points c = points_present
