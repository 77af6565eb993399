use Rattle.std.proofs.Common.{◌≡◌, take}
use Rattle.propagators.proofs.frames.copies.Given as goal

abbrev pub invariant-loop-denominator : goal.invariant-loop-denominator
invariant-loop-denominator l = l.copies.items ≡ take l.denominator-index l.denominators
