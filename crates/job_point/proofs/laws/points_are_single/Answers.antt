use Rattle.job_point.proofs.SingleLemmas.{points_single}
use Rattle.job_point.proofs.laws.points_are_single.Goals as goal

pub returns : goal.returns
returns c = points_single c.values_are_unique.ensures c.symmetry_is_unique.ensures
