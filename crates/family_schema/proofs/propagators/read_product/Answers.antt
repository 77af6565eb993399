use Rattle.input_schema.proofs.Steps.{refused, then_refuses, then_refuses_later}
use Rattle.family_schema.specs.FamilyFile.{ReadsProduct}
use Rattle.family_schema.proofs.propagators.read_product.Goals as goal

pub returns-in_err-left-clause-reading : goal.returns-in_err-left-clause-reading
returns-in_err-left-clause-reading c =
    refused (ReadsProduct c.args.scope.now c.args.node.now) _ _ c.from_residual-in_err-left.ensures.1 (then_refuses_later _ _ _ _ c.in_ok-product.ensures (then_refuses_later _ _ _ _ c.in_ok-first.ensures
    (then_refuses _ _ _ (rw c.as_slice-names.ensures at c.in_err-left.ensures.reading))))

pub returns-in_err-right-clause-reading : goal.returns-in_err-right-clause-reading
returns-in_err-right-clause-reading c =
    refused (ReadsProduct c.args.scope.now c.args.node.now) _ _ c.from_residual-in_err-right.ensures.1 (then_refuses_later _ _ _ _ c.in_ok-product.ensures (then_refuses_later _ _ _ _ c.in_ok-first.ensures
    (then_refuses_later _ _ _ _ (rw c.as_slice-names.ensures at c.in_ok-left.ensures.reading) (then_refuses _ _ _ (rw c.as_slice-names.ensures at c.in_err-right.ensures.reading)))))

pub returns-in_err-mass-clause-reading : goal.returns-in_err-mass-clause-reading
returns-in_err-mass-clause-reading c =
    refused (ReadsProduct c.args.scope.now c.args.node.now) _ _ c.from_residual-in_err-mass.ensures.1 (then_refuses_later _ _ _ _ c.in_ok-product.ensures (then_refuses_later _ _ _ _ c.in_ok-first.ensures
    (then_refuses_later _ _ _ _ (rw c.as_slice-names.ensures at c.in_ok-left.ensures.reading) (then_refuses_later _ _ _ _ (rw c.as_slice-names.ensures at c.in_ok-right.ensures.reading)
    (then_refuses _ _ _ (rw c.as_slice.ensures at c.in_err-mass.ensures))))))
