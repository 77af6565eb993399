use Rattle.integral_index.proofs.Orders.{unit_compare-total, unit_compare-IsAntisymmetric, tells_apart}
use Rattle.integral_index.proofs.laws.unit_order_is_total.Goals as goal

pub returns-clause-total : goal.returns-clause-total
returns-clause-total c = unit_compare-total

pub returns-clause-apart : goal.returns-clause-apart
returns-clause-apart c = tells_apart unit_compare-total unit_compare-IsAntisymmetric
