use Rattle.std.proofs.Common.{refl}
use Rattle.input_schema.proofs.Steps.{refused, then_is, then_refuses, then_refuses_later}
use Rattle.family_schema.specs.FamilyFile.{ReadsBody}
use Rattle.family_schema.proofs.reader.read_body.Goals as goal

pub returns-in_err-listed-clause-reading : goal.returns-in_err-listed-clause-reading
returns-in_err-listed-clause-reading c = refused (ReadsBody c.args.pairs.now c.args.line c.args.scope c.args.width c.args.name) _ _ c.from_residual-in_err-listed.ensures.1 (then_refuses_later _ _ _ _ c.in_ok-top_sectors.ensures.reading (then_refuses _ _ _ c.in_err-listed.ensures))

pub returns-in_err-propagators-clause-reading : goal.returns-in_err-propagators-clause-reading
returns-in_err-propagators-clause-reading c =
    refused (ReadsBody c.args.pairs.now c.args.line c.args.scope c.args.width c.args.name) _ _ c.from_residual-in_err-propagators.ensures.1 (then_refuses_later _ _ _ _ c.in_ok-top_sectors.ensures.reading (then_refuses_later _ _ _ _ c.in_ok-listed.ensures (then_refuses _ _ _ c.in_err-propagators.ensures.reading)))

pub returns-in_err-zero_sectors-clause-reading : goal.returns-in_err-zero_sectors-clause-reading
returns-in_err-zero_sectors-clause-reading c =
    refused (ReadsBody c.args.pairs.now c.args.line c.args.scope c.args.width c.args.name) _ _ c.from_residual-in_err-zero_sectors.ensures.1 (then_refuses_later _ _ _ _ c.in_ok-top_sectors.ensures.reading (then_refuses_later _ _ _ _ c.in_ok-listed.ensures
    (then_refuses_later _ _ _ _ c.in_ok-propagators.ensures.reading (then_refuses _ _ _ c.in_err-zero_sectors.ensures.reading))))

pub returns-in_err-symmetries-clause-reading : goal.returns-in_err-symmetries-clause-reading
returns-in_err-symmetries-clause-reading c =
    refused (ReadsBody c.args.pairs.now c.args.line c.args.scope c.args.width c.args.name) _ _ c.from_residual-in_err-symmetries.ensures.1 (then_refuses_later _ _ _ _ c.in_ok-top_sectors.ensures.reading (then_refuses_later _ _ _ _ c.in_ok-listed.ensures
    (then_refuses_later _ _ _ _ c.in_ok-propagators.ensures.reading (then_refuses_later _ _ _ _ c.in_ok-zero_sectors.ensures.reading (then_refuses _ _ _ c.in_err-symmetries.ensures.reading)))))

pub returns-clause-reading : goal.returns-clause-reading
returns-clause-reading c =
    then_is _ _ _ _ c.in_ok-top_sectors.ensures.reading (then_is _ _ _ _ c.in_ok-listed.ensures (then_is _ _ _ _ c.in_ok-propagators.ensures.reading
    (then_is _ _ _ _ c.in_ok-zero_sectors.ensures.reading (then_is _ _ _ _ c.in_ok-symmetries.ensures.reading refl))))
