-- The bound of the seeds so far.
use Rattle.std.proofs.Common.{◌≡◌, ◌≤◌, ◌*◌, take}
use Rattle.job_equations.specs.Bounds.{term_bound}
use Rattle.job_equations.proofs.bounds.term_bound.Given as goal

abbrev pub invariant-loop-seed : goal.invariant-loop-seed
invariant-loop-seed l = record {
  is : l.bound ≡ term_bound l.shapes (take l.seed-index l.seeds);
  most : l.bound ≤ l.seed-index * 57256;
}
