use Rattle.std.proofs.Common.{◌≡◌, map, take}
use Rattle.job_outline.specs.Readings.{frame_of}
use Rattle.job_outline.proofs.parts.frames_of.Given as goal

abbrev pub invariant-loop-family : goal.invariant-loop-family
invariant-loop-family l = l.frames.items ≡ map frame_of (take l.family-index l.families)
