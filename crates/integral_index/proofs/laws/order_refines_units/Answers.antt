use Rattle.integral_index.proofs.Orders.{compare-of_units}
use Rattle.integral_index.proofs.laws.order_refines_units.Goals as goal

pub returns : goal.returns
returns c = compare-of_units c.args.order
