use Rattle.std.proofs.Common.{◌≡◌, length, take}
use Rattle.std.specs.List.{AllZip}
use Rattle.job_point.specs.Point.{IsFamilyAt, IsBasisOf, AreSymmetriesOf}
use Rattle.job_point.proofs.FamilyLemmas.{AreSplit}
use Rattle.job_point.proofs.bases.families_at.Given as goal

abbrev pub invariant-loop-family : goal.invariant-loop-family
invariant-loop-family l = record {
  split : AreSplit (IsFamilyAt l.modulus l.residues l.point) l.families l.bases l.symmetries l.family-index;
  counted : length l.bases ≡ l.family-index;
  of : AllZip (IsBasisOf l.modulus l.point.externals) (take l.family-index l.families) l.bases;
  widths : AllZip AreSymmetriesOf l.bases l.symmetries;
}
