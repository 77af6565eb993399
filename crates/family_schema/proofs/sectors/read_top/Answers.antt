use Rattle.std.proofs.Common.{[], ◌∷◌, codes}
use Rattle.input_schema.proofs.Steps.{given}
use Rattle.input_schema.specs.Maps.{value_of}
use Rattle.family_schema.specs.Scope.{all_of}
use Rattle.family_schema.specs.FamilyFile.{ReadsSectors}
use Rattle.family_schema.proofs.sectors.read_top.Goals as goal

pub returns-in-Some-clause-reading : goal.returns-in-Some-clause-reading
returns-in-Some-clause-reading c =
    given (value_of c.args.pairs.now (codes "top_level_sectors")) (all_of c.args.width ∷ []) (ReadsSectors 1 256 c.args.width) c.in-Some.node.now c.read_list.result c.in-Some.ensures c.read_list.ensures.reading
