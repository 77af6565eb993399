-- The rows ascend, so each row's pivot is above those of the table.
use Rattle.std.proofs.Common.{rules, length, subst}
use Rattle.std.proofs.lemmas.Iterator.Adapters.{YieldsList-from_vec}
use Rattle.std.proofs.lemmas.Iterator.Consumers.{YieldsList-turn}
use Rattle.sector_forward.specs.Differences.{DifferBySpan}
use Rattle.sector_forward.specs.Steps.{ShowsNoneWithin, SameAbove}
use Rattle.sector_forward.proofs.Backing.{IsSoFar-more, IsStairs-from_echelon}
use Rattle.sector_forward.proofs.reduction.back.Goals as goal

pub clear_pivots-requires-clause-stairs : goal.clear_pivots-requires-clause-stairs
clear_pivots-requires-clause-stairs c =
    rw c.deref.ensures.value (IsStairs-from_echelon c.args.modulus.now c.args.order c.loop-row.table.items c.loop-row.invariant.2.made.echelon)

pub loop-row-preserved : goal.loop-row-preserved
loop-row-preserved c =
    let p = c.args.modulus.now in
    let order = c.args.order in
    let table = c.loop-row.table.items in
    let row = c.in-Some.row in
    let cleared = c.clear_pivots.new.row in
    let road = YieldsList-from_vec {s = c.into_iter-row-iterator.result} c.args.rows.items (search rules) (search rules) in
    let turn = YieldsList-turn road c.loop-row.yielded c.loop-row.row-iterator c.loop-row.yielded_by c.next.result c.next.new.self row c.in-Some.is c.next.ensures.steps in
    let more = IsSoFar-more p order c.args.rows.items c.loop-row.yielded table row c.requires c.loop-row.invariant.2 turn.0 turn.1 cleared c.clear_pivots.ensures.row
    (subst (λ t. ShowsNoneWithin order t 0 (length t) cleared) c.deref.ensures.value c.in_ok-clear_pivots.ensures.cleared) (subst (λ t. DifferBySpan p t row cleared) c.deref.ensures.value c.in_ok-clear_pivots.ensures.differ)
    (subst (λ t. SameAbove order t row cleared) c.deref.ensures.value c.in_ok-clear_pivots.ensures.above) in
    (tt, tt, rw c.in_ok-push.ensures.items more)
