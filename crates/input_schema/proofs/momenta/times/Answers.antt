use Rattle.std.proofs.Common.{arith}
use Rattle.std.proofs.lemmas.Int.{ints, to_z-of_z}
use Rattle.input_schema.proofs.SmallProducts.{product_small}
use Rattle.input_schema.proofs.momenta.times.Goals as goal

pub overflow_mul-result : goal.overflow_mul-result
overflow_mul-result c =
    let p = product_small c.args.left c.args.right c.requires.left c.requires.right in
    grind (arith, ints, to_z-of_z)

pub returns : goal.returns
returns c =
    let p = product_small c.args.left c.args.right c.requires.left c.requires.right in
    grind (arith, ints, to_z-of_z)
