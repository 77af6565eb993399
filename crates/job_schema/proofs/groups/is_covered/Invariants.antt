use Rattle.std.proofs.Common.{◌≡◌, drop}
use Rattle.job_schema.specs.Specs.{is_covered}
use Rattle.job_schema.proofs.groups.is_covered.Given as goal

abbrev pub invariant-loop-place : goal.invariant-loop-place
invariant-loop-place l = is_covered l.frames l.families l.sector ≡ is_covered l.frames (drop l.place-index l.families) l.sector
