-- The law of one reduced list, for two lists of equations with one span.
use Rattle.reduction_core.proofs.OneTable.{one_reduced_list}
use Rattle.reduction_core.proofs.laws.span_determines_reduced_list.Goals as goal

pub returns : goal.returns
returns c = one_reduced_list
