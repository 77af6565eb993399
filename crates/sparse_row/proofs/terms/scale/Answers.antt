use Rattle.std.proofs.Common.{◌<◌, length, set, ap, ◌∙◌, arith}
use Rattle.std.proofs.lemmas.List.Edits.{map_over_more}
use Rattle.sparse_row.specs.Terms.{scaled_term}
use Rattle.sparse_row.proofs.terms.scale.Goals as goal

pub loop-i-preserved : goal.loop-i-preserved
loop-i-preserved c =
    let f = scaled_term c.args.modulus.now c.args.factor in
    let term = c.index_mut-term.result.now in
    let within : c.loop-i.i < length c.args.terms.now.items = omega (arith, c.args.terms.now.ok.0) in
    ap (λ n. set c.loop-i.terms.items c.loop-i.i record { integral = term.integral; coefficient = n }) c.mul-term.ensures.value
    ∙ map_over_more f c.args.terms.now.items c.loop-i.terms.items c.loop-i.i term within c.loop-i.invariant c.index_mut-term.ensures.value
