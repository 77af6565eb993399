use Rattle.std.proofs.Common.{◌≡◌, map, take}
use Rattle.std.specs.Prelude.{pos, ◌-ℤ◌}
use Rattle.momentum_sums.proofs.momentum_reader.coefficients_of.Given as goal

abbrev pub invariant-loop-tally : goal.invariant-loop-tally
invariant-loop-tally l = l.coefficients.items ≡ map (λ t. pos t.added -ℤ pos t.taken) (take l.tally-index l.tallies)
