use Rattle.std.proofs.Common.{◌≡◌, ◌+◌, take}
use Rattle.job_schema.specs.Specs.{pair_count}
use Rattle.job_schema.proofs.groups.are_many.Given as goal

abbrev pub invariant-loop-group : goal.invariant-loop-group
invariant-loop-group l = l.room + pair_count (take l.group-index l.groups) ≡ 256
