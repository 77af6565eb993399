-- What an integral equals, and that nothing else is that.
use Rattle.reduction_core.proofs.Differences.{normal_form_is_equal, normal_form_is_only}
use Rattle.reduction_core.proofs.laws.normal_form_is_the_reduction.Goals as goal

pub returns-clause-equal : goal.returns-clause-equal
returns-clause-equal c = normal_form_is_equal

pub returns-clause-only : goal.returns-clause-only
returns-clause-only c = normal_form_is_only
