use Rattle.std.proofs.Common.{arith, refl}
use Rattle.std.proofs.lemmas.Grind.{common_steps}
use Rattle.job_point.specs.Point.{IsFamilyAt, AreFamiliesAt, IsBasisOf, AreSymmetriesOf}
use Rattle.job_point.proofs.ListLemmas.{AllZip-more, AllZip-push, AllZip-whole}
use Rattle.job_point.proofs.StepLemmas.{refused}
use Rattle.job_point.proofs.FamilyLemmas.{split_none, split_more, split_spoilt, split_all}
use Rattle.job_point.proofs.bases.families_at.Goals as goal

pub loop-family-init : goal.loop-family-init
loop-family-init c = record {
  split = rw c.new-bases.ensures (rw c.new-symmetries.ensures (split_none (IsFamilyAt c.args.modulus.now c.args.residues.now c.args.point.now) c.args.families.now));
  counted = rw c.new-bases.ensures refl;
  of = rw c.new-bases.ensures tt;
  widths = rw c.new-bases.ensures (rw c.new-symmetries.ensures tt);
}

pub returns-in_err-found-clause-families : goal.returns-in_err-found-clause-families
returns-in_err-found-clause-families c =
    refused (AreFamiliesAt c.args.modulus.now c.args.residues.now c.args.point.now c.args.families.now) _ _ c.from_residual.ensures.1
    (split_spoilt (IsFamilyAt c.args.modulus.now c.args.residues.now c.args.point.now) c.args.families.now c.loop-family.bases c.loop-family.symmetries c.loop-family.family-index c.loop-family.invariant.split c.family-item.result _ (omega arith) c.family-item.is c.len-number.ensures _ c.in_err-found.ensures.family)

pub loop-family-preserved : goal.loop-family-preserved
loop-family-preserved c = record {
  split = split_more (IsFamilyAt c.args.modulus.now c.args.residues.now c.args.point.now) c.args.families.now c.loop-family.bases c.loop-family.symmetries c.loop-family.family-index c.loop-family.invariant.split c.family-item.result _ (omega arith) c.family-item.is c.len-number.ensures c.in_ok-found.found _ _ c.in_ok-push.ensures.ok c.in_ok-push-2.ensures.ok c.in_ok-found.ensures.family;
  counted = rw c.in_ok-push.ensures.ok (grind (arith, common_steps));
  of = rw c.in_ok-push.ensures.ok
      (AllZip-more (IsBasisOf c.args.modulus.now c.args.point.now.externals) c.args.families.now c.loop-family.bases c.loop-family.family-index c.family-item.result c.in_ok-found.found.basis (omega arith) c.family-item.is c.loop-family.invariant.of c.in_ok-found.ensures.basis);
  widths = rw c.in_ok-push.ensures.ok (rw c.in_ok-push-2.ensures.ok
      (AllZip-push AreSymmetriesOf c.loop-family.bases c.loop-family.symmetries c.in_ok-found.found.basis c.in_ok-found.found.symmetries c.loop-family.invariant.widths c.in_ok-found.ensures.widths));
}

pub returns-clause-families : goal.returns-clause-families
returns-clause-families c =
    split_all (IsFamilyAt c.args.modulus.now c.args.residues.now c.args.point.now) c.args.families.now c.loop-family.bases c.loop-family.symmetries c.loop-family.family-index c.loop-family.invariant.split _ refl (omega arith)

pub returns-clause-bases : goal.returns-clause-bases
returns-clause-bases c = AllZip-whole (IsBasisOf c.args.modulus.now c.args.point.now.externals) c.args.families.now c.loop-family.bases c.loop-family.family-index (omega arith) c.loop-family.invariant.of
