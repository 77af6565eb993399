use Rattle.std.proofs.Common.{◌≡◌, [], drop}
use Rattle.input_schema.specs.Readings.{each}
use Rattle.job_schema.specs.Specs.{group}
use Rattle.job_schema.proofs.groups.specs.Given as goal

abbrev pub invariant-loop-item : goal.invariant-loop-item
invariant-loop-item l = each (group l.names l.frames) [] l.nodes ≡ each (group l.names l.frames) l.groups.items (drop l.item-index l.nodes)
