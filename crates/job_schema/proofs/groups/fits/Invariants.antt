use Rattle.std.proofs.Common.{◌≡◌, drop}
use Rattle.job_schema.specs.Specs.{fits}
use Rattle.job_schema.proofs.groups.fits.Given as goal

abbrev pub invariant-loop-place : goal.invariant-loop-place
invariant-loop-place l = fits l.frames l.families l.sector ≡ fits l.frames (drop l.place-index l.families) l.sector
