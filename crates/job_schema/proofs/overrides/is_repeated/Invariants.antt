use Rattle.std.proofs.Common.{◌≡◌, drop}
use Rattle.job_schema.specs.Overrides.{is_repeated}
use Rattle.job_schema.proofs.overrides.is_repeated.Given as goal

abbrev pub invariant-loop-word : goal.invariant-loop-word
invariant-loop-word l = is_repeated l.earlier l.name ≡ is_repeated (drop l.word-index l.earlier) l.name
