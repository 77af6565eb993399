use Rattle.input_schema.proofs.Steps.{refused, then_answers, then_refuses}
use Rattle.family_schema.specs.FamilyFile.{ReadsFamilies}
use Rattle.family_schema.proofs.reader.read.Goals as goal

pub returns-in_err-pairs-clause-reading : goal.returns-in_err-pairs-clause-reading
returns-in_err-pairs-clause-reading c = refused (ReadsFamilies c.args.kinematics.now c.args.tree.now) _ _ c.from_residual.ensures.1 (then_refuses _ _ _ (rw c.needed.ensures at c.in_err-pairs.ensures))

pub returns-clause-reading : goal.returns-clause-reading
returns-clause-reading c = then_answers _ _ _ _ (rw c.needed.ensures at c.in_ok-pairs.ensures) (then_answers _ _ _ _ c.in_ok-node.ensures c.read_list.ensures.reading)
