use Rattle.std.proofs.Common.{[], length}
use Rattle.input_schema.proofs.Steps.{refused, spoilt}
use Rattle.family_schema.specs.FamilyFile.{ReadsImages, ReadsImage}
use Rattle.family_schema.proofs.symmetries.read_images.Goals as goal

pub returns-in_err-image-clause-reading : goal.returns-in_err-image-clause-reading
returns-in_err-image-clause-reading c =
    refused (ReadsImages c.args.scope.now c.args.pairs.now) _ _ c.from_residual.ensures.1
    (spoilt (λ found loop. ReadsImage c.args.scope.now c.args.pairs.now (length found) loop) [] c.args.scope.now.loops c.loop-name.images c.loop-name.name-index c.name-item.result _ (rw c.as_slice-names.ensures at c.loop-name.invariant.reading) (rw c.as_slice-names.ensures at c.loop-name-test.true) (rw c.as_slice-names.ensures at c.name-item.is)
    (rw c.len.ensures at c.in_err-image.ensures.reading))
