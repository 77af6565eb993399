use Rattle.std.proofs.Common.{rules, arith}
use Rattle.std.proofs.lemmas.Grind.{common_steps}
use Rattle.input_schema.proofs.Steps.{refused, then_is, then_refuses, then_refuses_later}
use Rattle.kinematics_schema.specs.KinematicsFile.{ReadsMap}
use Rattle.kinematics_schema.proofs.reader.read_map.Goals as goal

pub returns-in_err-pairs-clause-reading : goal.returns-in_err-pairs-clause-reading
returns-in_err-pairs-clause-reading c =
    refused (ReadsMap c.args.node.now) _ _ c.from_residual.ensures.1
    (then_refuses _ _ _ (rw (c.needed.ensures, c.optional.ensures, c.optional-2.ensures, c.optional-3.ensures, c.optional-4.ensures, c.optional-5.ensures) at c.in_err-pairs.ensures))

pub returns-in_err-externals-clause-reading : goal.returns-in_err-externals-clause-reading
returns-in_err-externals-clause-reading c =
    refused (ReadsMap c.args.node.now) _ _ c.from_residual-in_err-externals.ensures.1
    (then_refuses_later _ _ _ _ (rw (c.needed.ensures, c.optional.ensures, c.optional-2.ensures, c.optional-3.ensures, c.optional-4.ensures, c.optional-5.ensures) at c.in_ok-pairs.ensures)
    (then_refuses_later _ _ _ _ c.in_ok-incoming.ensures (then_refuses _ _ _ c.in_err-externals.ensures.reading)))

pub returns-in_err-kinematics-clause-reading : goal.returns-in_err-kinematics-clause-reading
returns-in_err-kinematics-clause-reading c =
    refused (ReadsMap c.args.node.now) _ _ c.from_residual-in_err-kinematics.ensures.1
    (then_refuses_later _ _ _ _ (rw (c.needed.ensures, c.optional.ensures, c.optional-2.ensures, c.optional-3.ensures, c.optional-4.ensures, c.optional-5.ensures) at c.in_ok-pairs.ensures)
    (then_refuses_later _ _ _ _ c.in_ok-incoming.ensures (then_refuses_later _ _ _ _ c.in_ok-externals.ensures.reading (then_refuses _ _ _ c.in_err-kinematics.ensures.reading))))

pub returns-then-independent_count-le6-clause-reading : goal.returns-then-independent_count-le6-clause-reading
returns-then-independent_count-le6-clause-reading c =
    then_is _ _ _ _ (rw (c.needed.ensures, c.optional.ensures, c.optional-2.ensures, c.optional-3.ensures, c.optional-4.ensures, c.optional-5.ensures) at c.in_ok-pairs.ensures)
    (then_is _ _ _ _ c.in_ok-incoming.ensures (then_is _ _ _ _ c.in_ok-externals.ensures.reading (then_is _ _ _ _ c.in_ok-kinematics.ensures.reading
    (first_of (search rules, grind (arith, common_steps))))))

pub returns-else-independent_count-le6-clause-reading : goal.returns-else-independent_count-le6-clause-reading
returns-else-independent_count-le6-clause-reading c =
    rw c.fault.ensures
    (then_is _ _ _ _ (rw (c.needed.ensures, c.optional.ensures, c.optional-2.ensures, c.optional-3.ensures, c.optional-4.ensures, c.optional-5.ensures) at c.in_ok-pairs.ensures)
    (then_is _ _ _ _ c.in_ok-incoming.ensures (then_is _ _ _ _ c.in_ok-externals.ensures.reading (then_is _ _ _ _ c.in_ok-kinematics.ensures.reading
    (first_of (search rules, grind (arith, common_steps)))))))
