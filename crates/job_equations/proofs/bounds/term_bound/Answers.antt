-- One seed more.
use Rattle.std.proofs.Common.{◌≡◌, ◌+◌, ◌<◌, ◌∙◌, [], ◌∷◌, ◌++◌, length, get_or, take, sym, ap, subst, arith}
use Rattle.std.proofs.lemmas.List.{take_all, take_more}
use Rattle.integral_index.specs.Integral.{Integral}
use Rattle.job_equations.specs.declared.bounds.EquationShape.{EquationShape}
use Rattle.job_equations.specs.Bounds.{term_bound}
use Rattle.job_equations.proofs.BoundLemmas.{term_bound-none, term_bound-push, weight}
use Rattle.job_equations.proofs.bounds.term_bound.Goals as goal

pub loop-seed-init : goal.loop-seed-init
loop-seed-init c = record { is = sym (term_bound-none c.args.shapes.now); most = omega arith }

pub loop-seed-preserved : goal.loop-seed-preserved
loop-seed-preserved c =
    let shapes = c.args.shapes.now in
    let seeds = c.args.seeds.now in
    let i = c.loop-seed.seed-index in
    let seed : Integral = c.seed-item.result in
    let nothing : EquationShape = record { loops = 0; externals = 0; width = 0; symmetries = 0 } in
    let within : seed.family < length shapes = subst (λ (x : Integral). x.family < length shapes) (sym c.seed-item.is) (c.requires.families i seed c.loop-seed-test.true) in
    let longer : take (i + 1) seeds ≡ take i seeds ++ seed ∷ [] = take_more seeds i seed c.loop-seed-test.true ∙ ap (λ (x : Integral). take i seeds ++ x ∷ []) (sym c.seed-item.is) in
    let more : term_bound shapes (take (i + 1) seeds) ≡ term_bound shapes (take i seeds) + weight (get_or shapes seed.family nothing) = ap (term_bound shapes) longer ∙ term_bound-push shapes (take i seeds) seed nothing within in
    let here : c.terms_of_seed-bound.result ≡ weight (get_or shapes seed.family nothing) = c.terms_of_seed-bound.ensures.value ∙ ap (λ k. weight (get_or shapes k nothing)) c.family.ensures in
    record {
      is = (λ j. c.loop-seed.invariant.is j + here j) ∙ sym more;
      most = omega (arith, c.loop-seed.invariant.most, c.terms_of_seed-bound.ensures.most);
    }

pub returns : goal.returns
returns c = c.loop-seed.invariant.is ∙ ap (term_bound c.args.shapes.now) (take_all c.loop-seed.seed-index c.args.seeds.now c.loop-seed-test.false)
