-- At most 136 equations of at most 421 terms.
use Rattle.std.proofs.Common.{◌≤◌, ◌+◌, ◌*◌, arith}
use Rattle.std.proofs.Math.Nat.{mul-le-mul}
use Rattle.job_equations.proofs.bounds.terms_of_seed.Goals as goal

pub returns-clause-most : goal.returns-clause-most
returns-clause-most c =
    let shape = c.args.shape.now in
    let momenta : shape.loops + shape.externals ≤ 12 = omega (arith, c.requires.few_loops, c.requires.few_externals) in
    let pairs : shape.loops * (shape.loops + shape.externals) ≤ 6 * 12 = mul-le-mul c.requires.few_loops momenta in
    let lowered : shape.width * shape.width ≤ 20 * 20 = mul-le-mul c.requires.few_denominators c.requires.few_denominators in
    let equations : c.from.result ≤ 136 = omega (arith, c.from.ensures, pairs, c.requires.few_symmetries) in
    let terms : c.from-2.result ≤ 421 = omega (arith, c.from-2.ensures, lowered, c.requires.few_denominators) in
    mul-le-mul equations terms
