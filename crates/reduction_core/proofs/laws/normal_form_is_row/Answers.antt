-- A normal form is a row of residues.
use Rattle.reduction_core.proofs.Differences.{normal_form_is_row}
use Rattle.reduction_core.proofs.laws.normal_form_is_row.Goals as goal

pub returns : goal.returns
returns c = normal_form_is_row
