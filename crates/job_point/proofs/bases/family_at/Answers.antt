use Rattle.job_point.specs.Point.{IsFamilyAt}
use Rattle.job_point.proofs.StepLemmas.{refused}
use Rattle.job_point.proofs.FamilyLemmas.{symmetry_fails, family_found}
use Rattle.job_point.proofs.bases.family_at.Goals as goal

pub returns-in_err-symmetries-clause-family : goal.returns-in_err-symmetries-clause-family
returns-in_err-symmetries-clause-family c =
    refused (IsFamilyAt c.args.modulus.now c.args.residues.now c.args.point.now c.args.number c.args.family.now) _ _ c.from_residual-in_err-symmetries.ensures.1
    (symmetry_fails c.args.modulus.now c.args.residues.now c.args.point.now c.args.number c.args.family.now
    c.in_ok-found.found (rw c.as_slice-propagators.ensures at c.in_ok-found.ensures.denominators)
    c.in_ok-basis.basis (rw (c.len-loops.ensures, c.as_slice-denominators.ensures) at c.in_ok-basis.ensures.basis)
    _ c.in_ok-basis.ensures.value _ c.as_slice-maps.ensures _ c.in_err-symmetries.ensures.symmetries)

pub returns-clause-family : goal.returns-clause-family
returns-clause-family c =
    family_found c.args.modulus.now c.args.residues.now c.args.point.now c.args.number c.args.family.now
    c.in_ok-found.found (rw c.as_slice-propagators.ensures at c.in_ok-found.ensures.denominators)
    c.in_ok-basis.basis (rw (c.len-loops.ensures, c.as_slice-denominators.ensures) at c.in_ok-basis.ensures.basis)
    _ c.in_ok-basis.ensures.value _ c.as_slice-maps.ensures c.in_ok-symmetries.symmetries c.in_ok-symmetries.ensures.symmetries
