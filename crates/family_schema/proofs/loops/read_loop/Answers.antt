use Rattle.input_schema.proofs.Steps.{refused}
use Rattle.family_schema.proofs.Bound.{bound_refuses, bound_refuses_later}
use Rattle.input_schema.specs.Readings.{Is}
use Rattle.family_schema.specs.FamilyFile.{loop_name}
use Rattle.family_schema.proofs.loops.read_loop.Goals as goal

pub returns-in_err-fresh : goal.returns-in_err-fresh
returns-in_err-fresh c =
    refused (Is (loop_name c.args.kinematics.now c.args.found.now c.args.node.now)) _ _ c.from_residual-in_err-fresh.ensures.1
    (bound_refuses_later _ _ _ _ c.in_ok-name.ensures (bound_refuses _ _ _ (rw c.as_slice.ensures at c.in_err-fresh.ensures)))

pub returns-in_err-fresh-2 : goal.returns-in_err-fresh-2
returns-in_err-fresh-2 c =
    refused (Is (loop_name c.args.kinematics.now c.args.found.now c.args.node.now)) _ _ c.from_residual-in_err-fresh-2.ensures.1
    (bound_refuses_later _ _ _ _ c.in_ok-name.ensures (bound_refuses_later _ _ _ _ (rw c.as_slice.ensures at c.in_ok-fresh.ensures)
    (bound_refuses _ _ _ (rw c.as_slice-2.ensures at c.in_err-fresh-2.ensures))))
