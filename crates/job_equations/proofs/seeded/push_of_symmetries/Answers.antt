-- One symmetry more, and all of them.
use Rattle.std.proofs.Common.{◌≡◌, ◌+◌, ◌∙◌, ℕ, List, [], ◌∷◌, ◌++◌, take, sym, ap, subst}
use Rattle.std.proofs.lemmas.List.{take_more}
use Rattle.sparse_row.specs.Row.{Row}
use Rattle.symmetry_maps.specs.Equation.{IsSymmetryEquation}
use Rattle.job_equations.specs.Appending.{Appends}
use Rattle.job_equations.proofs.AppendLemmas.{Appends-more, Appends-one}
use Rattle.job_equations.proofs.seeded.push_of_symmetries.Goals as goal

pub loop-symmetry-preserved : goal.loop-symmetry-preserved
loop-symmetry-preserved c =
    let σs = c.args.symmetries.now in
    let i = c.loop-symmetry.symmetry-index in
    let σ : List ℕ = c.symmetry-item.result in
    let R : List ℕ → Row → Type 0 = λ places row. IsSymmetryEquation c.args.modulus.now places c.args.seed.now c.args.zeros.now c.args.order row in
    let longer : take i σs ++ σ ∷ [] ≡ take (i + 1) σs = ap (λ (x : List ℕ). take i σs ++ x ∷ []) c.symmetry-item.is ∙ sym (take_more σs i σ c.loop-symmetry-test.true) in
    subst (λ some. Appends R some c.args.rows.now.items c.push.new.self.items) longer
    (Appends-more R (take i σs) (σ ∷ []) c.args.rows.now.items c.loop-symmetry.rows.items c.push.new.self.items c.loop-symmetry.invariant
    (Appends-one R σ c.loop-symmetry.rows.items c.push.new.self.items c.in_ok-row.row c.in_ok-row.ensures c.in_ok-push.ensures.items))
