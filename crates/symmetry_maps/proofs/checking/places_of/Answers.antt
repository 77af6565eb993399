-- One image more is sent to a place, or is the first at fault.
use Rattle.std.proofs.Common.{◌≡◌, ◌+◌, ℕ, List, length, refl, subst, arith, Some}
use Rattle.std.specs.List.{slice_get}
use Rattle.std.proofs.lemmas.Option.{slice_get_read}
use Rattle.symmetry_maps.specs.Symmetry.{IsFirstAtFault}
use Rattle.symmetry_maps.specs.Steps.{IsFree, IsNotFree}
use Rattle.symmetry_maps.proofs.SendingLemmas.{AreSent-more, IsSymmetry-sent, first_fault}
use Rattle.symmetry_maps.proofs.checking.places_of.Goals as goal

pub loop-image-preserved : goal.loop-image-preserved
loop-image-preserved c =
    let n = c.loop-image.image-index in
    let places = c.loop-image.places.items in
    let here : slice_get c.args.images.now n ≡ Some c.image-item.result = slice_get_read c.args.images.now (length c.args.images.now) n c.image-item.result refl c.loop-image-test.true c.image-item.is in
    AreSent-more c.args.images.now c.args.forms.now n places c.loop-image.invariant c.image-item.result here c.in-Some.number c.push.new.self.items
    (subst (λ (taken : List ℕ). IsFree c.args.forms.now taken c.image-item.result c.in-Some.number) c.deref.ensures.value c.in-Some.ensures) c.in_ok-push-in-Some.ensures.items

pub returns-in-None-clause-cause : goal.returns-in-None-clause-cause
returns-in-None-clause-cause c =
    let n = c.loop-image.image-index in
    let places = c.loop-image.places.items in
    let here : slice_get c.args.images.now n ≡ Some c.image-item.result = slice_get_read c.args.images.now (length c.args.images.now) n c.image-item.result refl c.loop-image-test.true c.image-item.is in
    let count : n + 1 ≡ c.len.result + 1 = omega (arith, c.len.ensures, c.loop-image.invariant.size) in
    subst (IsFirstAtFault c.args.images.now c.args.forms.now) count
    (first_fault c.args.images.now c.args.forms.now n places c.loop-image.invariant c.image-item.result here c.requires.apart
    (subst (λ (taken : List ℕ). IsNotFree c.args.forms.now taken c.image-item.result) c.deref.ensures.value c.in-None.ensures)
    (omega (arith, c.loop-image-test.true, c.requires.same)))

pub returns-clause-symmetry : goal.returns-clause-symmetry
returns-clause-symmetry c =
    IsSymmetry-sent c.args.images.now c.args.forms.now c.loop-image.image-index c.loop-image.places.items c.loop-image.invariant
    (omega (arith, c.loop-image-test.false, c.loop-image.auto.image-index-end, c.requires.same))
