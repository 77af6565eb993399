-- The equations of the symmetries so far were appended.
use Rattle.std.proofs.Common.{take}
use Rattle.symmetry_maps.specs.Equation.{IsSymmetryEquation}
use Rattle.job_equations.specs.Appending.{Appends}
use Rattle.job_equations.proofs.seeded.push_of_symmetries.Given as goal

abbrev pub invariant-loop-symmetry : goal.invariant-loop-symmetry
invariant-loop-symmetry l =
    Appends (λ places row. IsSymmetryEquation l.modulus places l.seed l.zeros l.order row) (take l.symmetry-index l.symmetries) l.initial.rows.items l.rows.items
