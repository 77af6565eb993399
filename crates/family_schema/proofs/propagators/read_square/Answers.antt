use Rattle.input_schema.proofs.Steps.{refused, then_refuses, then_refuses_later}
use Rattle.family_schema.specs.FamilyFile.{ReadsSquare}
use Rattle.family_schema.proofs.propagators.read_square.Goals as goal

pub returns-in_err-momentum-clause-reading : goal.returns-in_err-momentum-clause-reading
returns-in_err-momentum-clause-reading c =
    refused (ReadsSquare c.args.scope.now c.args.node.now) _ _ c.from_residual-in_err-momentum.ensures.1 (then_refuses_later _ _ _ _ c.in_ok-first.ensures
    (then_refuses _ _ _ (rw c.as_slice.ensures at c.in_err-momentum.ensures.reading)))

pub returns-in_err-mass-clause-reading : goal.returns-in_err-mass-clause-reading
returns-in_err-mass-clause-reading c =
    refused (ReadsSquare c.args.scope.now c.args.node.now) _ _ c.from_residual-in_err-mass.ensures.1 (then_refuses_later _ _ _ _ c.in_ok-first.ensures
    (then_refuses_later _ _ _ _ (rw c.as_slice.ensures at c.in_ok-momentum.ensures.reading) (then_refuses _ _ _ (rw c.as_slice-2.ensures at c.in_err-mass.ensures))))
