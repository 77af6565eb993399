use Rattle.job_point.proofs.Present.{points_present}
use Rattle.job_point.proofs.laws.points_never_say_missing.Goals as goal

pub returns : goal.returns
returns c = points_present
