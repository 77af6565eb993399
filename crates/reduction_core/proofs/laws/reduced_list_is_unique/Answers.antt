-- The law of one reduced list.
use Rattle.reduction_core.proofs.OneTable.{one_list_of_equations}
use Rattle.reduction_core.proofs.laws.reduced_list_is_unique.Goals as goal

pub returns : goal.returns
returns c = one_list_of_equations
