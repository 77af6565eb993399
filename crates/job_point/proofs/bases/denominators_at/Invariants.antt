use Rattle.std.proofs.Common.{◌≡◌, [], length, All}
use Rattle.propagators.specs.Denominators.{IsDenominator}
use Rattle.job_point.specs.Point.{IsDenominatorAt}
use Rattle.job_point.proofs.StepLemmas.{GoesOn}
use Rattle.job_point.proofs.bases.denominators_at.Given as goal

abbrev pub invariant-loop-propagator : goal.invariant-loop-propagator
invariant-loop-propagator l = record {
  step : GoesOn (λ found propagator. IsDenominatorAt l.modulus l.residues propagator) [] l.propagators l.denominators l.propagator-index;
  counted : length l.denominators ≡ l.propagator-index;
  each : All (IsDenominator l.modulus l.width) l.denominators;
}
