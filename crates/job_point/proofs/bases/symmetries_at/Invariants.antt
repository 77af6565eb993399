use Rattle.std.proofs.Common.{◌≡◌, [], length, All}
use Rattle.job_point.specs.Point.{IsSymmetryAt}
use Rattle.job_point.proofs.StepLemmas.{GoesOn}
use Rattle.job_point.proofs.bases.symmetries_at.Given as goal

abbrev pub invariant-loop-symmetry : goal.invariant-loop-symmetry
invariant-loop-symmetry l = record {
  step : GoesOn (λ found symmetry. IsSymmetryAt (record { loops = l.loops; denominators = l.denominators; point = l.point }) symmetry) [] l.symmetries l.found l.symmetry-index;
  widths : All (λ places. length places ≡ length l.denominators) l.found;
}
