use Rattle.std.proofs.Common.{◌≡◌, take}
use Rattle.job_outline.specs.Readings.{names_of}
use Rattle.job_outline.proofs.parts.names_of.Given as goal

abbrev pub invariant-loop-family : goal.invariant-loop-family
invariant-loop-family l = l.names.items ≡ names_of (take l.family-index l.families)
