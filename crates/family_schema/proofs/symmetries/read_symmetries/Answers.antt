use Rattle.std.proofs.Common.{[], codes}
use Rattle.input_schema.proofs.Steps.{given, not_given}
use Rattle.input_schema.specs.Maps.{value_of}
use Rattle.family_schema.specs.FamilyFile.{ReadsSymmetries}
use Rattle.family_schema.proofs.symmetries.read_symmetries.Goals as goal

pub returns-in-Some-clause-reading : goal.returns-in-Some-clause-reading
returns-in-Some-clause-reading c =
    given (value_of c.args.pairs.now (codes "symmetries")) [] (ReadsSymmetries c.args.scope.now) c.in-Some.node.now c.read_list.result c.in-Some.ensures c.read_list.ensures.reading

pub returns-in-None-clause-reading : goal.returns-in-None-clause-reading
returns-in-None-clause-reading c = rw c.new.ensures (not_given (value_of c.args.pairs.now (codes "symmetries")) [] (ReadsSymmetries c.args.scope.now) c.in-None.ensures)
