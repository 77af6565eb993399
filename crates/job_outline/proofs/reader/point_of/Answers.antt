use Rattle.job_outline.proofs.Jobs.{point_counted}
use Rattle.job_outline.proofs.reader.point_of.Goals as goal

pub returns-clause-settings : goal.returns-clause-settings
returns-clause-settings c = point_counted c.args.parameters.now c.args.point c.args.words.now c.override_point.result c.requires c.override_point.ensures
