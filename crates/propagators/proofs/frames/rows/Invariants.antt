use Rattle.std.proofs.Common.{◌≡◌, take}
use Rattle.propagators.specs.Combinations.{rows_of}
use Rattle.propagators.proofs.frames.rows.Given as goal

abbrev pub invariant-loop-form : goal.invariant-loop-form
invariant-loop-form l = l.rows.items ≡ rows_of (take l.form-index l.forms)
