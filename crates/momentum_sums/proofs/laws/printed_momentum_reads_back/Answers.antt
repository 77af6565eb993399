use Rattle.momentum_sums.proofs.PrintedMomenta.{reads_back}
use Rattle.momentum_sums.proofs.laws.printed_momentum_reads_back.Goals as goal

pub returns : goal.returns
returns c = reads_back
