use Rattle.std.proofs.Common.{arith}
use Rattle.kinematics.proofs.PlaceLemmas.{place_of-sum, place_of-below}
use Rattle.kinematics.proofs.product_places.place_of.Goals as goal

pub returns-clause-value : goal.returns-clause-value
returns-clause-value c = place_of-sum c.args.externals c.args.x c.args.y c.requires.ordered c.requires.within

pub returns-clause-below : goal.returns-clause-below
returns-clause-below c =
    omega (arith, place_of-sum c.args.externals c.args.x c.args.y c.requires.ordered c.requires.within, place_of-below c.args.externals c.args.x c.args.y c.requires.ordered c.requires.within)
