-- Which integrals are listed, and that they ascend.
use Rattle.reduction_core.proofs.Masters.{masters_are_listed, masters_ascend}
use Rattle.reduction_core.proofs.laws.masters_are_listed.Goals as goal

pub returns-clause-members : goal.returns-clause-members
returns-clause-members c = masters_are_listed

pub returns-clause-ascend : goal.returns-clause-ascend
returns-clause-ascend c = masters_ascend
