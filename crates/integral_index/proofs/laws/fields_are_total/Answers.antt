use Rattle.integral_index.proofs.Orders.{by_fields-total, by_fields-IsAntisymmetric, tells_apart}
use Rattle.integral_index.proofs.laws.fields_are_total.Goals as goal

pub returns-clause-total : goal.returns-clause-total
returns-clause-total c = by_fields-total

pub returns-clause-apart : goal.returns-clause-apart
returns-clause-apart c = tells_apart by_fields-total by_fields-IsAntisymmetric
