use Rattle.std.proofs.Common.{◌≤◌, ◌+◌, map, sym, subst, All}
use Rattle.propagators.specs.Combinations.{AreIndependent}
use Rattle.propagators.specs.Denominators.{form_of, IsDenominator}
use Rattle.symmetry_maps.specs.Symmetry.{IsSymmetry, HasCause}
use Rattle.job_point.proofs.FamilyLemmas.{as_many, images_wide, told_by_map, places_wide, map_refused}
use Rattle.job_point.proofs.bases.symmetry_at.Goals as goal

pub check-requires-clause-few_loops : goal.check-requires-clause-few_loops
check-requires-clause-few_loops c =
    subst (λ n. n ≤ 6) (sym (as_many c.args.loops c.args.point.now c.args.denominators.now c.args.symmetry.now c.as_slice.result.now c.as_slice.ensures c.requires.images)) c.requires.few_loops

pub check-requires-clause-images : goal.check-requires-clause-images
check-requires-clause-images c =
    images_wide c.args.loops c.args.point.now c.args.denominators.now c.args.symmetry.now c.as_slice.result.now c.as_slice.ensures c.requires.images

pub check-requires-clause-denominators : goal.check-requires-clause-denominators
check-requires-clause-denominators c =
    subst (λ n. All (IsDenominator c.args.modulus.now (n + c.args.point.now.externals)) c.args.denominators.now)
    (sym (as_many c.args.loops c.args.point.now c.args.denominators.now c.args.symmetry.now c.as_slice.result.now c.as_slice.ensures c.requires.images)) c.requires.denominators

pub check-requires-clause-independent : goal.check-requires-clause-independent
check-requires-clause-independent c =
    subst (λ n. AreIndependent c.args.modulus.now (map (form_of n c.args.point.now) c.args.denominators.now))
    (sym (as_many c.args.loops c.args.point.now c.args.denominators.now c.args.symmetry.now c.as_slice.result.now c.as_slice.ensures c.requires.images)) c.requires.independent

pub returns-in-Ok-clause-symmetry : goal.returns-in-Ok-clause-symmetry
returns-in-Ok-clause-symmetry c =
    told_by_map c.args.loops c.args.point.now c.args.denominators.now c.args.symmetry.now c.as_slice.result.now c.as_slice.ensures c.requires.images
    (λ images forms. IsSymmetry images forms c.in-Ok.found) c.in-Ok.ensures.symmetry

pub returns-in-Ok-clause-width : goal.returns-in-Ok-clause-width
returns-in-Ok-clause-width c = places_wide _ _ _ c.args.denominators.now c.in-Ok.found c.in-Ok.ensures.symmetry

pub returns-in-Err-clause-symmetry : goal.returns-in-Err-clause-symmetry
returns-in-Err-clause-symmetry c =
    let told = told_by_map c.args.loops c.args.point.now c.args.denominators.now c.args.symmetry.now c.as_slice.result.now c.as_slice.ensures c.requires.images
    (λ images forms. HasCause images forms c.in-Err.fault) c.in-Err.ensures.cause in
    rw c.map_error.ensures (map_refused (record { loops = c.args.loops; denominators = c.args.denominators.now; point = c.args.point.now }) c.args.symmetry.now c.in-Err.fault told)
