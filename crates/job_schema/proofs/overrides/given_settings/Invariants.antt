use Rattle.std.proofs.Common.{◌≡◌, [], drop}
use Rattle.input_schema.specs.Readings.{each}
use Rattle.job_schema.specs.Overrides.{given}
use Rattle.job_schema.proofs.overrides.given_settings.Given as goal

abbrev pub invariant-loop-setting : goal.invariant-loop-setting
invariant-loop-setting l = each (given l.line) [] l.settings ≡ each (given l.line) l.found (drop l.setting-index l.settings)
