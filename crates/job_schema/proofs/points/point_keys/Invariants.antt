use Rattle.std.proofs.Common.{◌≡◌, take}
use Rattle.job_schema.specs.Jobs.{point_keys}
use Rattle.job_schema.proofs.points.point_keys.Given as goal

abbrev pub invariant-loop-name : goal.invariant-loop-name
invariant-loop-name l = l.keys.items ≡ point_keys (take l.name-index l.names)
