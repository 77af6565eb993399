use Rattle.momentum_sums.proofs.ReadingLaws.{one_momentum, one_momentum_fault, no_momentum_fault}
use Rattle.momentum_sums.proofs.laws.momentum_readings_are_unique.Goals as goal

pub returns : goal.returns
returns c = record {
  momentum = one_momentum;
  momentum_fault = one_momentum_fault;
  momentum_or_fault = no_momentum_fault;
}
