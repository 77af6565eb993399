use Rattle.std.proofs.Common.{arith, rules, []}
use Rattle.std.proofs.lemmas.Grind.{common_steps}
use Rattle.input_schema.proofs.Steps.{refused, then_is, then_refuses, then_refuses_later, spoilt, gone_on, all_read}
use Rattle.input_schema.specs.Readings.{Is}
use Rattle.family_schema.specs.FamilyFile.{ReadsLoops, loop_name}
use Rattle.family_schema.proofs.loops.read_loops.Goals as goal

pub returns-in_err-name-clause-reading : goal.returns-in_err-name-clause-reading
returns-in_err-name-clause-reading c =
    refused (ReadsLoops c.args.kinematics.now c.args.node.now) _ _ c.from_residual-in_err-name.ensures.1 (then_refuses_later _ _ _ _ c.in_ok-nodes.ensures.items
    (then_refuses _ _ _ (spoilt (λ found item. Is (loop_name c.args.kinematics.now found item)) [] c.in_ok-nodes.nodes.now c.loop-item.loops c.loop-item.item-index c.item-item.result _ c.loop-item.invariant.reading (omega arith) c.item-item.is (rw c.as_slice.ensures at c.in_err-name.ensures))))

pub loop-item-preserved : goal.loop-item-preserved
loop-item-preserved c = record {
  reading = rw c.in_ok-push.ensures.ok
      (gone_on (λ found item. Is (loop_name c.args.kinematics.now found item)) [] c.in_ok-nodes.nodes.now c.loop-item.loops c.loop-item.item-index c.item-item.result c.in_ok-name.name c.loop-item.invariant.reading (omega arith) c.item-item.is (rw c.as_slice.ensures at c.in_ok-name.ensures));
  counted = rw c.in_ok-push.ensures.ok (grind (arith, common_steps));
}

pub returns-then-width_of-le20-clause-reading : goal.returns-then-width_of-le20-clause-reading
returns-then-width_of-le20-clause-reading c =
    then_is _ _ _ _ c.in_ok-nodes.ensures.items (then_is _ _ _ _ (all_read (λ found item. Is (loop_name c.args.kinematics.now found item)) [] c.in_ok-nodes.nodes.now c.loop-item.loops c.loop-item.item-index c.loop-item.invariant.reading (omega arith))
    (first_of (search rules, grind (arith, common_steps))))

pub returns-else-width_of-le20-clause-reading : goal.returns-else-width_of-le20-clause-reading
returns-else-width_of-le20-clause-reading c =
    rw c.fault.ensures (then_is _ _ _ _ c.in_ok-nodes.ensures.items (then_is _ _ _ _ (all_read (λ found item. Is (loop_name c.args.kinematics.now found item)) [] c.in_ok-nodes.nodes.now c.loop-item.loops c.loop-item.item-index c.loop-item.invariant.reading (omega arith))
    (first_of (search rules, grind (arith, common_steps)))))
