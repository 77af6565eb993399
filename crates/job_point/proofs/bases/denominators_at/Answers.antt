use Rattle.std.proofs.Common.{arith, []}
use Rattle.std.proofs.lemmas.Grind.{common_steps}
use Rattle.std.proofs.lemmas.List.Elements.{All-push}
use Rattle.propagators.specs.Denominators.{IsDenominator}
use Rattle.job_point.specs.Point.{IsDenominatorAt, AreDenominatorsAt}
use Rattle.job_point.proofs.StepLemmas.{refused, spoilt, gone_on, all_found}
use Rattle.job_point.proofs.bases.denominators_at.Goals as goal

pub returns-in_err-denominator-clause-denominators : goal.returns-in_err-denominator-clause-denominators
returns-in_err-denominator-clause-denominators c =
    refused (AreDenominatorsAt c.args.modulus.now c.args.residues.now c.args.propagators.now) _ _ c.from_residual.ensures.1
    (spoilt (λ found propagator. IsDenominatorAt c.args.modulus.now c.args.residues.now propagator) [] c.args.propagators.now c.loop-propagator.denominators c.loop-propagator.propagator-index c.propagator-item.result _ c.loop-propagator.invariant.step (omega arith) c.propagator-item.is c.in_err-denominator.ensures.denominator)

pub loop-propagator-preserved : goal.loop-propagator-preserved
loop-propagator-preserved c = record {
  step = rw c.in_ok-push.ensures.ok
      (gone_on (λ found propagator. IsDenominatorAt c.args.modulus.now c.args.residues.now propagator) [] c.args.propagators.now c.loop-propagator.denominators c.loop-propagator.propagator-index c.propagator-item.result c.in_ok-denominator.denominator c.loop-propagator.invariant.step (omega arith) c.propagator-item.is c.in_ok-denominator.ensures.denominator);
  counted = rw c.in_ok-push.ensures.ok (grind (arith, common_steps));
  each = rw c.in_ok-push.ensures.ok (All-push (IsDenominator c.args.modulus.now c.args.width) c.loop-propagator.denominators c.in_ok-denominator.denominator c.loop-propagator.invariant.each c.in_ok-denominator.ensures.is);
}

pub returns-clause-denominators : goal.returns-clause-denominators
returns-clause-denominators c = all_found (λ found propagator. IsDenominatorAt c.args.modulus.now c.args.residues.now propagator) [] c.args.propagators.now c.loop-propagator.denominators c.loop-propagator.propagator-index c.loop-propagator.invariant.step (omega arith)
