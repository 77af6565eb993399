-- Laws of what a job says at its numeric point. The project's own.
use Rattle.std.specs.Prelude.{◌<◌, ℕ, List}
use Rattle.kinematics_schema.specs.declared.content.Kinematics.{Kinematics}
use Rattle.family_schema.specs.declared.content.Family.{Family}
use Rattle.job_schema.specs.declared.points.Setting.{Setting}
use Rattle.job_point.specs.Steps.{IsSingle, NeverSaysMissing}
use Rattle.job_point.specs.Agreement.{Agrees, NamesDivisorsAlone}
use Rattle.job_point.specs.Point.{IsAtPoint}

-- there is one value at most
abbrev pub PointsAreSingle : Type 0
PointsAreSingle = (p : ℕ) (kinematics : Kinematics) (families : List Family) (settings : List Setting) → 1 < p → IsSingle (IsAtPoint p kinematics families settings)

-- any two answers are the same, but where one names a divisor of the modulus
abbrev pub PointsAgree : Type 0
PointsAgree = (p : ℕ) (kinematics : Kinematics) (families : List Family) (settings : List Setting) → 1 < p → Agrees p (IsAtPoint p kinematics families settings)

-- and such a divisor lies between 1 and the modulus, and divides it
abbrev pub PointsNameDivisors : Type 0
PointsNameDivisors = (p : ℕ) (kinematics : Kinematics) (families : List Family) (settings : List Setting) → 1 < p → NamesDivisorsAlone p (IsAtPoint p kinematics families settings)

-- nothing that a job says at its point is refused as a file that is missing
abbrev pub PointsNeverSayMissing : Type 0
PointsNeverSayMissing = (p : ℕ) (kinematics : Kinematics) (families : List Family) (settings : List Setting) → NeverSaysMissing (IsAtPoint p kinematics families settings)
