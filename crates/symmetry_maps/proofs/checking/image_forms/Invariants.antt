-- The forms of the images so far.
use Rattle.std.proofs.Common.{◌≡◌, take, map, length, All}
use Rattle.propagators.specs.Forms.{IsForm}
use Rattle.propagators.specs.Denominators.{image_of}
use Rattle.symmetry_maps.proofs.checking.image_forms.Given as goal

abbrev pub invariant-loop-denominator : goal.invariant-loop-denominator
invariant-loop-denominator l = record {
  value : l.forms.items ≡ map (image_of (length l.images) l.point l.images) (take l.denominator-index l.denominators);
  forms : All (IsForm l.modulus (length l.images) l.point.externals) l.forms.items;
}
