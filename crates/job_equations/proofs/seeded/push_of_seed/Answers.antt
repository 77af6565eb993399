-- The symmetries behind the derivatives.
use Rattle.std.proofs.Common.{◌∙◌, ℕ, List, map, sym, subst}
use Rattle.std.proofs.lemmas.Result.{on_ok_weaker}
use Rattle.sparse_row.specs.Row.{Row}
use Rattle.symmetry_maps.specs.Equation.{IsSymmetryEquation}
use Rattle.job_equations.specs.Places.{Origin, Symmetry, derivatives_of}
use Rattle.job_equations.specs.Equations.{IsEquationFrom}
use Rattle.job_equations.proofs.AppendLemmas.{Appends-map, Appends-more}
use Rattle.job_equations.proofs.seeded.push_of_seed.Goals as goal

pub push_of_symmetries-requires : goal.push_of_symmetries-requires
push_of_symmetries-requires c = λ i d low. c.requires.symmetries i d low ∙ sym c.requires.width

pub returns : goal.returns
returns c =
    let basis = c.args.basis.now in
    let σs = c.args.symmetries.now in
    let R : Origin → Row → Type 0 = IsEquationFrom basis c.args.dimension c.args.seed.now c.args.zeros.now c.args.order in
    let Q : List ℕ → Row → Type 0 = λ σ row. IsSymmetryEquation c.args.modulus.now σ c.args.seed.now c.args.zeros.now c.args.order row in
    on_ok_weaker _ (λ last.
    Appends-more R (derivatives_of basis) (map Symmetry σs) c.args.rows.now.items c.push_of_derivatives.new.rows.items c.push_of_symmetries.new.rows.items c.in_ok-push_of_derivatives.ensures
    (Appends-map Symmetry Q R (λ σ row h. subst (λ m. IsSymmetryEquation m σ c.args.seed.now c.args.zeros.now c.args.order row) (sym c.requires.modulus) h) σs c.push_of_derivatives.new.rows.items c.push_of_symmetries.new.rows.items last))
    c.push_of_symmetries.ensures
