use Rattle.std.proofs.Common.{◌≡◌, ◌*ℤ◌, arith}
use Rattle.std.proofs.lemmas.Int.{ints, to_z-of_z}
use Rattle.input_schema.proofs.momenta.plus_product.Goals as goal

pub returns : goal.returns
returns c =
    let e : c.times.result ≡ c.args.factor *ℤ c.args.other = simp (to_z-of_z, c.ranges.factor, c.ranges.other) at c.times.ensures.value in
    rw (← e) (omega (arith, ints))
