use Rattle.std.proofs.Common.{◌≡◌, [], drop}
use Rattle.input_schema.specs.Readings.{each}
use Rattle.job_schema.specs.Jobs.{setting_of}
use Rattle.job_schema.proofs.points.settings_of.Given as goal

abbrev pub invariant-loop-name : goal.invariant-loop-name
invariant-loop-name l = each (setting_of l.pairs) [] l.names ≡ each (setting_of l.pairs) l.settings (drop l.name-index l.names)
