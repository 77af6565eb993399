-- The equations of the momenta so far were appended.
use Rattle.ibp_generator.specs.Equation.{IsEquation}
use Rattle.job_equations.specs.Places.{numbers_to}
use Rattle.job_equations.specs.Appending.{Appends}
use Rattle.job_equations.proofs.seeded.push_of_loop.Given as goal

abbrev pub invariant-loop-place : goal.invariant-loop-place
invariant-loop-place l = Appends (λ q row. IsEquation l.basis l.dimension l.loop_number q l.seed l.zeros l.order row) (numbers_to l.place) l.initial.rows.items l.rows.items
