-- How an outline is kept: its parts, within their bounds.
use Rattle.job_outline.specs.declared.outlines.Outline.TheInside.{Inside}
use Rattle.job_outline.specs.Outlines.{Outline, IsSound}

abbrev pub shown : Inside → Outline
shown a = record { kinematics = a.kinematics; families = a.families; reduce = a.reduce; select = a.select; point = a.point }

abbrev pub IsKept : Inside → Type 0
IsKept a = IsSound (shown a)
