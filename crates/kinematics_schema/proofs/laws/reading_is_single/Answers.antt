use Rattle.kinematics_schema.proofs.Single.{kinematics_single}
use Rattle.kinematics_schema.proofs.laws.reading_is_single.Goals as goal

pub returns : goal.returns
returns c = kinematics_single c.readings_are_single.ensures.momenta c.readings_are_single.ensures.values
