use Rattle.std.proofs.Common.{◌≡◌, ◌++◌, map, take}
use Rattle.job_schema.specs.Specs.{spec_of}
use Rattle.job_schema.proofs.groups.push_specs_of_family.Given as goal

abbrev pub invariant-loop-sector : goal.invariant-loop-sector
invariant-loop-sector l = l.specs ≡ l.initial.specs ++ map (spec_of l.group l.family) (take l.sector-index l.sector-items)
