use Rattle.std.proofs.Common.{◌∙◌, ap, map}
use Rattle.std.specs.Prelude.{pos, ◌-ℤ◌}
use Rattle.momentum_sums.specs.declared.momentum_reader.Tally.{Tally}
use Rattle.momentum_sums.proofs.SmallSums.{coefficients_in_range}
use Rattle.momentum_sums.proofs.momentum_reader.read_momentum.Goals as goal

pub from_coefficients-requires : goal.from_coefficients-requires
from_coefficients-requires c =
    coefficients_in_range c.args.names.now c.as_bytes.result.now c.in_ok-tallies.tallies.items _ c.in_ok-tallies.ensures.ok
    (c.in_ok-coefficients.ensures ∙ ap (map (λ (t : Tally). pos t.added -ℤ pos t.taken)) c.deref.ensures.value)
