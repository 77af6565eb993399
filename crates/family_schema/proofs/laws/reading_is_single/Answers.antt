use Rattle.family_schema.proofs.Single.{families_single}
use Rattle.family_schema.proofs.laws.reading_is_single.Goals as goal

pub returns : goal.returns
returns c = families_single c.readings_are_single.ensures.momenta c.readings_are_single.ensures.values
