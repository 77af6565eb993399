use Rattle.std.proofs.Common.{arith}
use Rattle.std.proofs.lemmas.List.Edits.{length-remove}
use Rattle.input_schema.proofs.Steps.{refused, then_refuses, then_refuses_later}
use Rattle.kinematics_schema.specs.KinematicsFile.{ReadsConserved}
use Rattle.kinematics_schema.proofs.externals.read_conserved.Goals as goal

pub returns-in_err-image-clause-reading : goal.returns-in_err-image-clause-reading
returns-in_err-image-clause-reading c =
    refused (ReadsConserved c.args.externals.now c.args.node.now) _ _ c.from_residual-in_err-image.ensures.1 (then_refuses_later _ _ _ _ c.in_ok-first.ensures (then_refuses_later _ _ _ _ c.in_ok-place.ensures.place
    (then_refuses _ _ _ (rw (c.as_slice.ensures, c.in_ok-others.ensures.names) at c.in_err-image.ensures.reading))))

pub returns-clause-counts : goal.returns-clause-counts
returns-clause-counts c =
    let within = c.in_ok-place.ensures.within in
    let others = length-remove c.args.externals.now c.in_ok-place.place within in
    let counted = rw (c.as_slice.ensures, c.in_ok-others.ensures.names) at c.in_ok-image.ensures.counted in
    (within, omega arith)
