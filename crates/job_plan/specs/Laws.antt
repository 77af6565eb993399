-- Laws of the plan of a job. The project's own.
use Rattle.std.specs.Prelude.{List, ◌<◌}
use Rattle.yaml_text.specs.Lines.{Bytes}
use Rattle.job_point.specs.Steps as step
use Rattle.job_point.specs.Agreement.{Agrees, NamesDivisorsAlone}
use Rattle.job_outline.specs.Outlines.{Outline}
use Rattle.job_plan.specs.Plans.{IsPlan}

-- the same outline and texts of list files have one plan at most
abbrev pub PlanIsSingle : Type 0
PlanIsSingle = (outline : Outline) (texts : List Bytes) → 1 < outline.point.prime → step.IsSingle (IsPlan outline texts)

-- any two answers for an outline and the texts are the same, but where one names a divisor of the modulus
abbrev pub PlansAgree : Type 0
PlansAgree = (outline : Outline) (texts : List Bytes) → 1 < outline.point.prime → Agrees outline.point.prime (IsPlan outline texts)

-- and such a divisor lies between 1 and the modulus, and divides it
abbrev pub PlansNameDivisors : Type 0
PlansNameDivisors = (outline : Outline) (texts : List Bytes) → 1 < outline.point.prime → NamesDivisorsAlone outline.point.prime (IsPlan outline texts)

-- no outline and texts of list files are
abbrev pub PlansNeverSayMissing : Type 0
PlansNeverSayMissing = (outline : Outline) (texts : List Bytes) → step.NeverSaysMissing (IsPlan outline texts)
