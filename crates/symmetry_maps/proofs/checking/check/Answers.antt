-- Independent forms differ.
use Rattle.std.proofs.Common.{length, map, sym, subst, ◌∙◌, arith}
use Rattle.propagators.specs.Denominators.{form_of}
use Rattle.symmetry_maps.specs.Steps.{AreApart}
use Rattle.symmetry_maps.proofs.FormsApart.{apart}
use Rattle.symmetry_maps.proofs.checking.check.Goals as goal

pub places_of-requires-clause-apart : goal.places_of-requires-clause-apart
places_of-requires-clause-apart c =
    subst AreApart (sym (c.deref-2.ensures.value ∙ c.in_ok-forms.ensures.value))
    (apart c.args.modulus.now (map (form_of (length c.args.images.now) c.args.point.now) c.args.denominators.now) (omega (arith, c.value-p.ensures.modulus.from_3)) c.requires.independent)
