use Rattle.std.proofs.Common.{None, codes}
use Rattle.input_schema.specs.Maps.{value_of}
use Rattle.input_schema.proofs.Steps.{given, not_given}
use Rattle.kinematics_schema.specs.KinematicsFile.{ReadsSymbol}
use Rattle.kinematics_schema.proofs.invariants.read_symbol.Goals as goal

pub returns-in-Some-clause-reading : goal.returns-in-Some-clause-reading
returns-in-Some-clause-reading c =
    given (value_of c.args.pairs.now (codes "symbol_to_replace_by_one")) None (ReadsSymbol c.args.invariants.now) c.in-Some.node.now c.read_place.result c.in-Some.ensures c.read_place.ensures.reading

pub returns-in-None-clause-reading : goal.returns-in-None-clause-reading
returns-in-None-clause-reading c = not_given (value_of c.args.pairs.now (codes "symbol_to_replace_by_one")) None (ReadsSymbol c.args.invariants.now) c.in-None.ensures
