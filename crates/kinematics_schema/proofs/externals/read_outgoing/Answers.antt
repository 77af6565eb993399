use Rattle.std.proofs.Common.{codes}
use Rattle.input_schema.specs.Maps.{value_of}
use Rattle.input_schema.proofs.Steps.{given}
use Rattle.kinematics_schema.specs.KinematicsFile.{ReadsNames}
use Rattle.kinematics_schema.proofs.externals.read_outgoing.Goals as goal

pub returns-in-Some-clause-reading : goal.returns-in-Some-clause-reading
returns-in-Some-clause-reading c =
    given (value_of c.args.pairs.now (codes "outgoing_momenta")) c.args.incoming (ReadsNames c.args.incoming) c.in-Some.node.now c.read_names.result c.in-Some.ensures c.read_names.ensures.reading
