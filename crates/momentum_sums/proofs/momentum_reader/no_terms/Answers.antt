use Rattle.std.proofs.Common.{◌∙◌}
use Rattle.momentum_sums.proofs.SmallSums.{no_tallies}
use Rattle.momentum_sums.proofs.momentum_reader.no_terms.Goals as goal

pub returns : goal.returns
returns c = c.in_ok-vec.ensures.items_if_clones_equal (λ y same. same) ∙ no_tallies c.args.names.now
