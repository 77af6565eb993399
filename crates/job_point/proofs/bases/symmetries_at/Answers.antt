use Rattle.std.proofs.Common.{◌≡◌, arith, [], length}
use Rattle.std.proofs.lemmas.List.Elements.{All-push}
use Rattle.job_point.specs.Point.{IsSymmetryAt, AreSymmetriesAt}
use Rattle.job_point.proofs.StepLemmas.{refused, spoilt, gone_on, all_found}
use Rattle.job_point.proofs.bases.symmetries_at.Goals as goal

pub returns-in_err-next-clause-symmetries : goal.returns-in_err-next-clause-symmetries
returns-in_err-next-clause-symmetries c =
    refused (AreSymmetriesAt (record { loops = c.args.loops; denominators = c.args.denominators.now; point = c.args.point.now }) c.args.symmetries.now) _ _ c.from_residual.ensures.1
    (spoilt (λ found symmetry. IsSymmetryAt (record { loops = c.args.loops; denominators = c.args.denominators.now; point = c.args.point.now }) symmetry) [] c.args.symmetries.now c.loop-symmetry.found c.loop-symmetry.symmetry-index c.symmetry-item.result _ c.loop-symmetry.invariant.step (omega arith) c.symmetry-item.is c.in_err-next.ensures.symmetry)

pub loop-symmetry-preserved : goal.loop-symmetry-preserved
loop-symmetry-preserved c = record {
  step = rw c.in_ok-push.ensures.ok
      (gone_on (λ found symmetry. IsSymmetryAt (record { loops = c.args.loops; denominators = c.args.denominators.now; point = c.args.point.now }) symmetry) [] c.args.symmetries.now c.loop-symmetry.found c.loop-symmetry.symmetry-index c.symmetry-item.result c.in_ok-next.next c.loop-symmetry.invariant.step (omega arith) c.symmetry-item.is c.in_ok-next.ensures.symmetry);
  widths = rw c.in_ok-push.ensures.ok (All-push (λ places. length places ≡ length c.args.denominators.now) c.loop-symmetry.found c.in_ok-next.next c.loop-symmetry.invariant.widths c.in_ok-next.ensures.width);
}

pub returns-clause-symmetries : goal.returns-clause-symmetries
returns-clause-symmetries c = all_found (λ found symmetry. IsSymmetryAt (record { loops = c.args.loops; denominators = c.args.denominators.now; point = c.args.point.now }) symmetry) [] c.args.symmetries.now c.loop-symmetry.found c.loop-symmetry.symmetry-index c.loop-symmetry.invariant.step (omega arith)
