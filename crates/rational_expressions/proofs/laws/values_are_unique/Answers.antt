use Rattle.rational_expressions.proofs.OutcomeLemmas.{one_outcome}
use Rattle.rational_expressions.proofs.laws.values_are_unique.Goals as goal

pub returns : goal.returns
returns c = one_outcome
