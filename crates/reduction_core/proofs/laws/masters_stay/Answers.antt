-- What a normal form shows is its own normal form.
use Rattle.reduction_core.proofs.NormalForms.{masters_stay}
use Rattle.reduction_core.proofs.laws.masters_stay.Goals as goal

pub returns : goal.returns
returns c = masters_stay
