use Rattle.job_outline.proofs.FamilyLemmas.{few_symmetries}
use Rattle.job_outline.proofs.reader.read_outline.Goals as goal

pub read_job-requires-clause-families_sound : goal.read_job-requires-clause-families_sound
read_job-requires-clause-families_sound c = record {
  few = c.in_ok-families.ensures.few;
  sound = c.in_ok-families.ensures.sound;
  few_symmetries = few_symmetries c.in_ok-kinematics.kinematics c.args.families.now c.in_ok-families.families c.in_ok-families.ensures.reading;
}
