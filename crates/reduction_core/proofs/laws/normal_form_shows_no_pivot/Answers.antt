-- No normal form shows a pivot.
use Rattle.reduction_core.proofs.NormalForms.{no_pivot_shown}
use Rattle.reduction_core.proofs.laws.normal_form_shows_no_pivot.Goals as goal

pub returns : goal.returns
returns c = no_pivot_shown
