-- One index more is written at its place.
use Rattle.std.proofs.Common.{◌<◌, ◌+◌, ◌-◌, length, get_or, set, sym, subst, arith, ℤ, pos}
use Rattle.symmetry_maps.proofs.MovedLemmas.{AreWritten, AreWritten-more, IsMoved-written, as_it_is}
use Rattle.symmetry_maps.proofs.moving.move_indices.Goals as goal

pub loop-place-preserved : goal.loop-place-preserved
loop-place-preserved c =
    let n = c.loop-place.place in
    let below : n < length c.args.indices.now = omega (arith, c.loop-place-test.true) in
    subst (λ (z : ℤ). AreWritten (n + 1) c.args.places.now c.args.indices.now (set c.loop-place.moved (get_or c.args.places.now n 0 - 1) z)) (sym (as_it_is (get_or c.args.indices.now n (pos 0)) (c.requires.indices n (pos 0) below)))
    (AreWritten-more n c.args.places.now c.args.indices.now c.loop-place.moved c.requires.permutation c.requires.indices below c.loop-place.invariant)

pub returns-clause-moved : goal.returns-clause-moved
returns-clause-moved c =
    IsMoved-written c.loop-place.place c.args.places.now c.args.indices.now c.loop-place.moved c.requires.permutation (omega (arith, c.loop-place-test.false)) c.loop-place.invariant
