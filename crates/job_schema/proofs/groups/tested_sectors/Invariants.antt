use Rattle.std.proofs.Common.{◌≡◌, [], drop}
use Rattle.input_schema.specs.Readings.{each}
use Rattle.job_schema.specs.Specs.{sector}
use Rattle.job_schema.proofs.groups.tested_sectors.Given as goal

abbrev pub invariant-loop-item : goal.invariant-loop-item
invariant-loop-item l = each (sector l.frames l.families) [] l.nodes ≡ each (sector l.frames l.families) l.found (drop l.item-index l.nodes)
