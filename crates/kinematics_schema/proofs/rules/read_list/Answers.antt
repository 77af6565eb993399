use Rattle.std.proofs.Common.{arith, []}
use Rattle.std.proofs.lemmas.Grind.{common_steps}
use Rattle.input_schema.proofs.Steps.{refused, then_is, then_refuses_later, spoilt, gone_on, all_read}
use Rattle.kinematics_schema.specs.KinematicsFile.{ReadsRules, ReadsRule}
use Rattle.kinematics_schema.proofs.rules.read_list.Goals as goal

pub returns-in_err-rule-clause-reading : goal.returns-in_err-rule-clause-reading
returns-in_err-rule-clause-reading c =
    refused (ReadsRules c.args.externals.now.names c.args.externals.now.conserved c.args.invariants.now c.args.node.now) _ _ c.from_residual-in_err-rule.ensures.1
    (then_refuses_later _ _ _ _ c.in_ok-nodes.ensures.items (spoilt _ _ _ _ _ c.item-item.result _ c.loop-item.invariant.reading (omega arith) c.item-item.is c.in_err-rule.ensures.reading))

pub loop-item-preserved : goal.loop-item-preserved
loop-item-preserved c = record {
  reading = rw c.in_ok-push.ensures.ok
      (gone_on (λ found item. ReadsRule c.args.externals.now.names c.args.externals.now.conserved c.args.invariants.now item) [] c.in_ok-nodes.nodes.now c.loop-item.rules c.loop-item.item-index c.item-item.result c.in_ok-rule.rule
      c.loop-item.invariant.reading (omega arith) c.item-item.is c.in_ok-rule.ensures.reading);
  momenta = rw c.in_ok-push.ensures.ok (grind (arith, common_steps));
}

pub returns-clause-reading : goal.returns-clause-reading
returns-clause-reading c =
    then_is _ _ _ _ c.in_ok-nodes.ensures.items
    (all_read (λ found item. ReadsRule c.args.externals.now.names c.args.externals.now.conserved c.args.invariants.now item) [] c.in_ok-nodes.nodes.now c.loop-item.rules c.loop-item.item-index c.loop-item.invariant.reading (omega arith))
