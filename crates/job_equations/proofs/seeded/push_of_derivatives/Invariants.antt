-- The equations of the loop momenta so far were appended.
use Rattle.std.specs.Prelude.{map}
use Rattle.std.specs.List.{flat_map}
use Rattle.propagators.specs.Basis.{momenta_of}
use Rattle.job_equations.specs.Places.{Derivative, numbers_to}
use Rattle.job_equations.specs.Equations.{IsEquationFrom}
use Rattle.job_equations.specs.Appending.{Appends}
use Rattle.job_equations.proofs.seeded.push_of_derivatives.Given as goal

abbrev pub invariant-loop-place : goal.invariant-loop-place
invariant-loop-place l =
    Appends (IsEquationFrom l.basis l.dimension l.seed l.zeros l.order)
    (flat_map (λ i. map (λ q. Derivative i q) (numbers_to (momenta_of l.basis))) (numbers_to l.place)) l.initial.rows.items l.rows.items
