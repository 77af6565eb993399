-- One loop momentum more.
use Rattle.std.proofs.Common.{◌+◌, ℕ, List, map, sym, subst}
use Rattle.std.specs.List.{flat_map}
use Rattle.propagators.specs.Basis.{momenta_of}
use Rattle.sparse_row.specs.Row.{Row}
use Rattle.job_equations.specs.Places.{Origin, Derivative, numbers_to}
use Rattle.job_equations.specs.Equations.{IsEquationFrom}
use Rattle.job_equations.specs.Appending.{Appends}
use Rattle.job_equations.proofs.AppendLemmas.{Appends-joined, numbers_to-more}
use Rattle.job_equations.proofs.seeded.push_of_derivatives.Goals as goal

pub loop-place-preserved : goal.loop-place-preserved
loop-place-preserved c =
    let n = c.loop-place.place in
    let old = c.args.rows.now.items in
    let middle = c.loop-place.rows.items in
    let new = c.push_of_loop.new.rows.items in
    let R : Origin → Row → Type 0 = IsEquationFrom c.args.basis.now c.args.dimension c.args.seed.now c.args.zeros.now c.args.order in
    let by_loop : ℕ → List Origin = λ i. map (λ q. Derivative i q) (numbers_to (momenta_of c.args.basis.now)) in
    subst (λ is. Appends R (flat_map by_loop is) old new) (sym (numbers_to-more n))
    (Appends-joined R by_loop (numbers_to n) (n + 1) old middle new c.loop-place.invariant c.in_ok-push_of_loop.ensures)
