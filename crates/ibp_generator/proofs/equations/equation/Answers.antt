-- The term of the seed, the terms of all denominators, and their sum.
use Rattle.std.proofs.Common.{◌≡◌, ◌<◌, ◌==◌, cond, List, [], sym, ap, subst, ◌∙◌, arith}
use Rattle.sparse_row.specs.declared.Term.{Term}
use Rattle.sparse_row.specs.Terms.{coefficient_at}
use Rattle.ibp_generator.specs.Equation.{term_of}
use Rattle.ibp_generator.specs.Collecting.{Gains}
use Rattle.ibp_generator.proofs.EquationLemmas.{IsEquation-made, if_ok_both}
use Rattle.ibp_generator.proofs.TermLemmas.{Gains-same}
use Rattle.ibp_generator.proofs.equations.equation.Goals as goal

pub returns : goal.returns
returns c =
    let seed = c.args.seed.now in
    let positive : 0 < c.args.modulus.now = omega (arith, c.requires.dimension) in
    let first : Gains c.args.zeros.now [] c.push_term.new.terms.items (λ x. coefficient_at x (term_of seed seed.indices (cond (c.args.momentum_number == c.args.loop_number) c.args.dimension 0))) =
    Gains-same c.args.zeros.now [] c.push_term.new.terms.items (λ x. coefficient_at x (record { integral = seed; coefficient = c.seed_coefficient-coefficient.result })) _
    (λ x. ap (λ n. coefficient_at x (term_of seed seed.indices n)) c.seed_coefficient-coefficient.ensures)
    (subst (λ (ts : List Term). Gains c.args.zeros.now ts c.push_term.new.terms.items (λ x. coefficient_at x (record { integral = seed; coefficient = c.seed_coefficient-coefficient.result }))) c.new-terms.ensures.items c.in_ok-push_term.ensures.gains) in
    if_ok_both c.collected.result
    (λ row is sums. IsEquation-made c.args.modulus.now c.args.basis.now c.args.dimension c.args.loop_number c.args.momentum_number seed c.args.zeros.now c.args.order row c.push_term.new.terms.items c.push_denominators.new.terms.items
    positive c.requires.modulus first c.in_ok-push_denominators.ensures.appended is sums)
    c.collected.ensures.row c.collected.ensures.sums
