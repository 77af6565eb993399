use Rattle.std.proofs.Common.{[], codes}
use Rattle.input_schema.specs.Maps.{value_of}
use Rattle.input_schema.proofs.Steps.{given}
use Rattle.kinematics_schema.specs.KinematicsFile.{ReadsInvariants}
use Rattle.kinematics_schema.proofs.invariants.read_invariants.Goals as goal

pub returns-in-Some-clause-reading : goal.returns-in-Some-clause-reading
returns-in-Some-clause-reading c =
    given (value_of c.args.pairs.now (codes "kinematic_invariants")) [] (ReadsInvariants c.args.externals.now) c.in-Some.node.now c.read_list.result c.in-Some.ensures c.read_list.ensures.reading
