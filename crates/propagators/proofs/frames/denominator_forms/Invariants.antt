use Rattle.std.proofs.Common.{◌≡◌, take, map, All}
use Rattle.propagators.specs.Forms.{IsForm}
use Rattle.propagators.specs.Denominators.{form_of}
use Rattle.propagators.proofs.frames.denominator_forms.Given as goal

abbrev pub invariant-loop-denominator : goal.invariant-loop-denominator
invariant-loop-denominator l = record {
  value : l.forms.items ≡ map (form_of l.loops l.point) (take l.denominator-index l.denominators);
  forms : All (IsForm l.modulus l.loops l.point.externals) l.forms.items;
}
