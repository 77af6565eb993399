use Rattle.integral_index.proofs.Orders.{compare-total, compare-IsAntisymmetric, tells_apart}
use Rattle.integral_index.proofs.laws.order_tells_apart.Goals as goal

pub returns : goal.returns
returns c = tells_apart (compare-total c.args.order) (compare-IsAntisymmetric c.args.order)
