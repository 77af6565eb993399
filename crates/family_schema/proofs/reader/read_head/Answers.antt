use Rattle.std.proofs.Common.{refl}
use Rattle.input_schema.proofs.Steps.{refused, then_is, then_refuses, then_refuses_later}
use Rattle.family_schema.specs.FamilyFile.{ReadsHead}
use Rattle.family_schema.proofs.reader.read_head.Goals as goal

pub returns-in_err-looped-clause-reading : goal.returns-in_err-looped-clause-reading
returns-in_err-looped-clause-reading c =
    refused (ReadsHead c.args.kinematics.now c.args.found.now c.args.pairs.now c.args.line) _ _ c.from_residual-in_err-looped.ensures.1
    (then_refuses_later _ _ _ _ c.in_ok-named.ensures (then_refuses_later _ _ _ _ c.in_ok-name.ensures (then_refuses _ _ _ c.in_err-looped.ensures)))

pub returns-in_err-loops-clause-reading : goal.returns-in_err-loops-clause-reading
returns-in_err-loops-clause-reading c =
    refused (ReadsHead c.args.kinematics.now c.args.found.now c.args.pairs.now c.args.line) _ _ c.from_residual-in_err-loops.ensures.1
    (then_refuses_later _ _ _ _ c.in_ok-named.ensures (then_refuses_later _ _ _ _ c.in_ok-name.ensures
    (then_refuses_later _ _ _ _ c.in_ok-looped.ensures (then_refuses _ _ _ c.in_err-loops.ensures.reading))))

pub returns-clause-reading : goal.returns-clause-reading
returns-clause-reading c =
    then_is _ _ _ _ c.in_ok-named.ensures (then_is _ _ _ _ c.in_ok-name.ensures (then_is _ _ _ _ c.in_ok-looped.ensures (then_is _ _ _ _ c.in_ok-loops.ensures.reading refl)))
