use Rattle.std.proofs.Common.{◌≡◌, take}
use Rattle.job_schema.specs.Specs.{specs_of_groups}
use Rattle.job_schema.proofs.groups.specs_of_groups.Given as goal

abbrev pub invariant-loop-group : goal.invariant-loop-group
invariant-loop-group l = l.specs ≡ specs_of_groups (take l.group-index l.groups)
