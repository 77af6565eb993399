use Rattle.std.proofs.Common.{◌≡◌, ◌++◌, map, take}
use Rattle.std.specs.List.{flat_map}
use Rattle.job_schema.specs.Specs.{spec_of}
use Rattle.job_schema.proofs.groups.push_specs_of_group.Given as goal

abbrev pub invariant-loop-family : goal.invariant-loop-family
invariant-loop-family l = l.specs ≡ l.initial.specs ++ flat_map (λ family. map (spec_of l.group family) l.group.sectors) (take l.family-index l.family-items)
