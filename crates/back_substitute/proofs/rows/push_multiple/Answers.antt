-- The multiple of the row below takes the term's coefficient away at its pivot, and adds nothing at the others.
use Rattle.back_substitute.proofs.Clearing.{term_cleared, term_passed}
use Rattle.back_substitute.proofs.rows.push_multiple.Goals as goal

pub returns-in_ok-push : goal.returns-in_ok-push
returns-in_ok-push c =
    rw c.in_ok-push.ensures.items
    (term_cleared c.args.modulus.now c.args.order c.args.below.now c.args.index.now c.requires.apart c.requires.index c.args.term.now c.args.parts.now.items c.requires.parts c.index-below-place.result c.in_ok-multiple.multiple c.in-Some.place c.neg-factor.result
    c.in-Some.ensures c.index-below-place.is c.neg-factor.ensures.value c.requires.residue c.in_ok-multiple.ensures.row c.in_ok-multiple.ensures.multiple)

pub returns-in_default : goal.returns-in_default
returns-in_default c =
    term_passed c.args.modulus.now c.args.order c.args.below.now c.args.index.now c.requires.apart c.requires.index c.args.term.now c.args.parts.now.items c.requires.parts c.in_default.ensures
