use Rattle.std.proofs.Common.{arith, []}
use Rattle.std.proofs.lemmas.Grind.{common_steps}
use Rattle.input_schema.specs.Readings.{Is}
use Rattle.input_schema.proofs.Steps.{refused, then_is, then_refuses_later, spoilt, gone_on, all_read}
use Rattle.kinematics_schema.specs.KinematicsFile.{ReadsInvariants, invariant}
use Rattle.kinematics_schema.proofs.invariants.read_list.Goals as goal

pub returns-in_err-invariant-clause-reading : goal.returns-in_err-invariant-clause-reading
returns-in_err-invariant-clause-reading c =
    refused (ReadsInvariants c.args.externals.now c.args.node.now) _ _ c.from_residual-in_err-invariant.ensures.1 (then_refuses_later _ _ _ _ c.in_ok-nodes.ensures.items
    (spoilt _ _ _ _ _ c.item-item.result _ c.loop-item.invariant.reading (omega arith) c.item-item.is (rw c.as_slice.ensures at c.in_err-invariant.ensures)))

pub loop-item-preserved : goal.loop-item-preserved
loop-item-preserved c = record {
  reading = rw c.in_ok-push.ensures.ok
      (gone_on (λ found item. Is (invariant c.args.externals.now found item)) [] c.in_ok-nodes.nodes.now c.loop-item.invariants c.loop-item.item-index c.item-item.result c.in_ok-invariant.invariant
      c.loop-item.invariant.reading (omega arith) c.item-item.is (rw c.as_slice.ensures at c.in_ok-invariant.ensures));
  counted = rw c.in_ok-push.ensures.ok (grind (arith, common_steps));
}

pub returns-clause-reading : goal.returns-clause-reading
returns-clause-reading c =
    then_is _ _ _ _ c.in_ok-nodes.ensures.items
    (all_read (λ found item. Is (invariant c.args.externals.now found item)) [] c.in_ok-nodes.nodes.now c.loop-item.invariants c.loop-item.item-index c.loop-item.invariant.reading (omega arith))
