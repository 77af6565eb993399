-- One momentum more, and then all as derivatives.
use Rattle.std.proofs.Common.{◌≡◌, ◌+◌, ℕ, [], ◌∷◌, sym, subst, arith}
use Rattle.propagators.specs.Basis.{momenta_of}
use Rattle.sparse_row.specs.Row.{Row}
use Rattle.ibp_generator.specs.Equation.{IsEquation}
use Rattle.job_equations.specs.Places.{Derivative, numbers_to}
use Rattle.job_equations.specs.Equations.{IsEquationFrom}
use Rattle.job_equations.specs.Appending.{Appends}
use Rattle.job_equations.proofs.AppendLemmas.{Appends-map, Appends-more, Appends-one, numbers_to-more}
use Rattle.job_equations.proofs.seeded.push_of_loop.Goals as goal

pub loop-place-preserved : goal.loop-place-preserved
loop-place-preserved c =
    let n = c.loop-place.place in
    let R : ℕ → Row → Type 0 = λ q row. IsEquation c.args.basis.now c.args.dimension c.args.loop_number q c.args.seed.now c.args.zeros.now c.args.order row in
    subst (λ qs. Appends R qs c.args.rows.now.items c.push.new.self.items) (sym (numbers_to-more n))
    (Appends-more R (numbers_to n) ((n + 1) ∷ []) c.args.rows.now.items c.loop-place.rows.items c.push.new.self.items c.loop-place.invariant
    (Appends-one R (n + 1) c.loop-place.rows.items c.push.new.self.items c.in_ok-row.row c.in_ok-row.ensures c.in_ok-push.ensures.items))

pub returns : goal.returns
returns c =
    let basis = c.args.basis.now in
    let R : ℕ → Row → Type 0 = λ q row. IsEquation basis c.args.dimension c.args.loop_number q c.args.seed.now c.args.zeros.now c.args.order row in
    let all : c.loop-place.place ≡ momenta_of basis = omega (arith, c.loop-place-test.false, c.loop-place.auto.place-end, c.momenta-place-end.ensures) in
    Appends-map (λ q. Derivative c.args.loop_number q) R (IsEquationFrom basis c.args.dimension c.args.seed.now c.args.zeros.now c.args.order)
    (λ q row h. h) (numbers_to (momenta_of basis)) c.args.rows.now.items c.loop-place.rows.items
    (subst (λ n. Appends R (numbers_to n) c.args.rows.now.items c.loop-place.rows.items) all c.loop-place.invariant)
