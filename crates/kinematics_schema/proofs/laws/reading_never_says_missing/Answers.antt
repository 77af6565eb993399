use Rattle.kinematics_schema.proofs.Present.{kinematics_present}
use Rattle.kinematics_schema.proofs.laws.reading_never_says_missing.Goals as goal

pub returns : goal.returns
returns c = kinematics_present
