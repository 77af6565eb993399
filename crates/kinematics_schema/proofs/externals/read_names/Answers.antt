use Rattle.std.proofs.Common.{arith}
use Rattle.input_schema.proofs.Steps.{refused, then_refuses_later, spoilt}
use Rattle.kinematics_schema.specs.KinematicsFile.{ReadsNames}
use Rattle.kinematics_schema.proofs.externals.read_names.Goals as goal

pub returns-in_err-name-clause-reading : goal.returns-in_err-name-clause-reading
returns-in_err-name-clause-reading c =
    refused (ReadsNames c.args.declared c.args.node.now) _ _ c.from_residual-in_err-name.ensures.1 (then_refuses_later _ _ _ _ c.in_ok-nodes.ensures.items
    (spoilt _ _ _ _ _ c.item-item.result _ c.loop-item.invariant.reading (omega arith) c.item-item.is (rw c.as_slice.ensures at c.in_err-name.ensures)))
