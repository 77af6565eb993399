use Rattle.input_schema.proofs.Steps.{refused, then_refuses, then_refuses_later}
use Rattle.family_schema.specs.FamilyFile.{ReadsSymmetry}
use Rattle.family_schema.proofs.symmetries.read_symmetry.Goals as goal

pub returns-in_err-pairs-clause-reading : goal.returns-in_err-pairs-clause-reading
returns-in_err-pairs-clause-reading c = refused (ReadsSymmetry c.args.scope.now c.args.node.now) _ _ c.from_residual-in_err-pairs.ensures.1 (then_refuses _ _ _ (rw (c.deref.ensures.value, c.in_ok-keys.ensures.keys, c.as_slice.ensures) at c.in_err-pairs.ensures))

pub returns-in_err-images-clause-reading : goal.returns-in_err-images-clause-reading
returns-in_err-images-clause-reading c =
    refused (ReadsSymmetry c.args.scope.now c.args.node.now) _ _ c.from_residual-in_err-images.ensures.1 (then_refuses_later _ _ _ _ (rw (c.deref.ensures.value, c.in_ok-keys.ensures.keys, c.as_slice.ensures) at c.in_ok-pairs.ensures) (then_refuses _ _ _ c.in_err-images.ensures.reading))
