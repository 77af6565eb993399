use Rattle.std.proofs.Common.{arith, rules, [], length}
use Rattle.std.proofs.lemmas.Grind.{common_steps}
use Rattle.std.proofs.lemmas.List.Elements.{All-push}
use Rattle.input_schema.proofs.Steps.{refused, then_is, then_refuses_later, spoilt, gone_on, all_read}
use Rattle.kinematics_schema.specs.Independent.{independents}
use Rattle.family_schema.specs.FamilyFile.{ReadsPropagators, ReadsPropagator}
use Rattle.family_schema.specs.Sound.{HasMomenta}
use Rattle.family_schema.proofs.propagators.read_propagators.Goals as goal

pub returns-in_err-propagator-clause-reading : goal.returns-in_err-propagator-clause-reading
returns-in_err-propagator-clause-reading c =
    refused (ReadsPropagators c.args.scope.now c.args.width c.args.node.now) _ _ c.from_residual-in_err-propagator.ensures.1 (then_refuses_later _ _ c.in_ok-nodes.nodes.now _ (first_of (search rules, grind (arith, common_steps)))
    (spoilt (λ found item. ReadsPropagator c.args.scope.now item) [] c.in_ok-nodes.nodes.now c.loop-item.propagators c.loop-item.item-index c.item-item.result _ c.loop-item.invariant.reading (omega arith) c.item-item.is c.in_err-propagator.ensures.reading))

pub loop-item-preserved : goal.loop-item-preserved
loop-item-preserved c = record {
  reading = rw c.in_ok-push.ensures.ok
      (gone_on (λ found item. ReadsPropagator c.args.scope.now item) [] c.in_ok-nodes.nodes.now c.loop-item.propagators c.loop-item.item-index c.item-item.result c.in_ok-propagator.propagator c.loop-item.invariant.reading (omega arith) c.item-item.is c.in_ok-propagator.ensures.reading);
  counted = rw c.in_ok-push.ensures.ok (grind (arith, common_steps));
  momenta = rw c.in_ok-push.ensures.ok
      (All-push (λ propagator. HasMomenta (length (independents c.args.scope.now.conserved c.args.scope.now.names)) propagator.momenta) c.loop-item.propagators c.in_ok-propagator.propagator c.loop-item.invariant.momenta c.in_ok-propagator.ensures.momenta);
}

pub returns-clause-reading : goal.returns-clause-reading
returns-clause-reading c = then_is _ _ c.in_ok-nodes.nodes.now _ (first_of (search rules, grind (arith, common_steps))) (all_read (λ found item. ReadsPropagator c.args.scope.now item) [] c.in_ok-nodes.nodes.now c.loop-item.propagators c.loop-item.item-index c.loop-item.invariant.reading (omega arith))
