use Rattle.std.proofs.Common.{◌≡◌, [], take, drop, length}
use Rattle.job_schema.specs.Overrides.{with_words}
use Rattle.job_schema.proofs.overrides.with_words.Given as goal

abbrev pub invariant-loop-i : goal.invariant-loop-i
invariant-loop-i l =
    (with_words l.names [] l.fn.point l.words ≡ with_words l.names (take l.i l.words) l.current (drop l.i l.words)) × (length l.current.settings ≡ length l.names)
