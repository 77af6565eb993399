use Rattle.input_schema.proofs.Steps.{refused, then_answers, then_refuses, then_refuses_later}
use Rattle.family_schema.specs.FamilyFile.{ReadsFamily}
use Rattle.family_schema.proofs.reader.read_family.Goals as goal

pub returns-in_err-pairs-clause-reading : goal.returns-in_err-pairs-clause-reading
returns-in_err-pairs-clause-reading c = refused (ReadsFamily c.args.kinematics.now c.args.found.now c.args.node.now) _ _ c.from_residual.ensures.1 (then_refuses _ _ _ (rw (c.needed.ensures, c.needed-2.ensures, c.optional.ensures, c.needed-3.ensures, c.optional-2.ensures, c.optional-3.ensures) at c.in_err-pairs.ensures))

pub returns-in_err-head-clause-reading : goal.returns-in_err-head-clause-reading
returns-in_err-head-clause-reading c =
    refused (ReadsFamily c.args.kinematics.now c.args.found.now c.args.node.now) _ _ c.from_residual-in_err-head.ensures.1
    (then_refuses_later _ _ _ _ (rw (c.needed.ensures, c.needed-2.ensures, c.optional.ensures, c.needed-3.ensures, c.optional-2.ensures, c.optional-3.ensures) at c.in_ok-pairs.ensures) (then_refuses _ _ _ c.in_err-head.ensures.reading))

pub returns-clause-reading : goal.returns-clause-reading
returns-clause-reading c = then_answers _ _ _ _ (rw (c.needed.ensures, c.needed-2.ensures, c.optional.ensures, c.needed-3.ensures, c.optional-2.ensures, c.optional-3.ensures) at c.in_ok-pairs.ensures) (then_answers _ _ _ _ c.in_ok-head.ensures.reading c.read_rest.ensures.reading)
