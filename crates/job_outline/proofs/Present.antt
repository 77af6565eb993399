-- No outline of a job says that a file is missing.
use Rattle.std.proofs.Common.{map}
use Rattle.input_schema.proofs.Present as read
use Rattle.kinematics_schema.specs.Laws.{KinematicsNeverSayMissing}
use Rattle.family_schema.specs.Laws.{FamiliesNeverSayMissing}
use Rattle.job_schema.specs.Laws.{JobsNeverSayMissing, PointsNeverSayMissing}
use Rattle.job_outline.specs.Readings.{parameters, names_of, frame_of}
use Rattle.job_outline.specs.Laws.{OutlinesNeverSayMissing}

pub outlines_present : KinematicsNeverSayMissing → FamiliesNeverSayMissing → JobsNeverSayMissing → PointsNeverSayMissing → OutlinesNeverSayMissing
outlines_present of_kinematics of_families of_jobs of_points families kinematics jobs words =
    read.then_present _ _ (of_kinematics kinematics) (λ k. read.then_present _ _ (of_families k families) (λ f.
    read.then_present _ _ (of_jobs (names_of f) (map frame_of f) (parameters k) jobs) (λ job. read.then_present _ _ (of_points (parameters k) job.point words) (λ point. read.is_present _ read.passed))))
