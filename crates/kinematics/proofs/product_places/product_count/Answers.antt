use Rattle.kinematics.proofs.PlaceLemmas.{product_count-half}
use Rattle.kinematics.proofs.product_places.product_count.Goals as goal

pub returns : goal.returns
returns c = product_count-half c.args.externals
