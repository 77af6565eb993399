use Rattle.family_schema.proofs.Present.{families_present}
use Rattle.family_schema.proofs.laws.reading_never_says_missing.Goals as goal

pub returns : goal.returns
returns c = families_present
