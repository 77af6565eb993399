-- The words themselves are the cause.
use Rattle.std.proofs.Common.{refl}
use Rattle.kira_app.proofs.Causes.{plainly_caused, answered_caused}
use Rattle.kira_app.proofs.top.refused.Goals as goal

pub returns-clause-cause : goal.returns-clause-cause
returns-clause-cause g c = plainly_caused _ c.args.status _ c.plain.ensures (answered_caused _ c.args.status refl c.requires)
