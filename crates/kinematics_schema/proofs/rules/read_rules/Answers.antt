use Rattle.std.proofs.Common.{[], codes}
use Rattle.input_schema.specs.Maps.{value_of}
use Rattle.input_schema.proofs.Steps.{given, not_given}
use Rattle.kinematics_schema.specs.KinematicsFile.{ReadsRules}
use Rattle.kinematics_schema.proofs.rules.read_rules.Goals as goal

pub returns-in-Some-clause-reading : goal.returns-in-Some-clause-reading
returns-in-Some-clause-reading c =
    given (value_of c.args.pairs.now (codes "scalarproduct_rules")) [] (ReadsRules c.args.externals.now.names c.args.externals.now.conserved c.args.invariants.now) c.in-Some.node.now c.read_list.result c.in-Some.ensures c.read_list.ensures.reading

pub returns-in-None-clause-reading : goal.returns-in-None-clause-reading
returns-in-None-clause-reading c =
    rw c.new.ensures (not_given (value_of c.args.pairs.now (codes "scalarproduct_rules")) [] (ReadsRules c.args.externals.now.names c.args.externals.now.conserved c.args.invariants.now) c.in-None.ensures)
