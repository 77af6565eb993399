-- The equations of the seeds so far.
use Rattle.std.proofs.Common.{[], take}
use Rattle.job_equations.specs.Places.{places}
use Rattle.job_equations.specs.Equations.{IsEquationAt}
use Rattle.job_equations.specs.Appending.{Appends}
use Rattle.job_equations.proofs.seeded.equations.Given as goal

abbrev pub invariant-loop-seed : goal.invariant-loop-seed
invariant-loop-seed l = Appends (IsEquationAt l.bases l.zeros l.dimension l.order) (places l.bases l.symmetries (take l.seed-index l.seeds)) [] l.rows.items
