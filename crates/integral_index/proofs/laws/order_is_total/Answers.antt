use Rattle.integral_index.proofs.Orders.{compare-total}
use Rattle.integral_index.proofs.laws.order_is_total.Goals as goal

pub returns : goal.returns
returns c = compare-total c.args.order
