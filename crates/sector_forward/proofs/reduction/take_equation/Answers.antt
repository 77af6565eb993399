-- The equation becomes a rule of its greatest integral, or depends on the rules that are there.
use Rattle.std.proofs.Common.{subst}
use Rattle.sparse_row.specs.Row.{IsPivot, coefficient}
use Rattle.sector_forward.specs.Differences.{DifferBySpan}
use Rattle.sector_forward.specs.Steps.{IsPlaceFor}
use Rattle.sector_forward.proofs.StepLemmas.{IsRow-in}
use Rattle.sector_forward.proofs.Taking.{dependent_span, rule_span, IsStairs-insert, positive_of}
use Rattle.sector_forward.proofs.reduction.take_equation.Goals as goal

pub normalise-requires-clause-shown : goal.normalise-requires-clause-shown
normalise-requires-clause-shown c = λ empty. c.in-Some.ensures.shown (empty c.in-Some.pivot.now)

pub returns-in-None-clause-span : goal.returns-in-None-clause-span
returns-in-None-clause-span c =
    let differ = subst (λ table. DifferBySpan c.args.modulus.now table c.args.equation c.clear_pivots.new.row) c.deref.ensures.value c.in_ok-clear_pivots.ensures.differ in
    dependent_span c.args.modulus.now c.args.order c.args.table.now.items c.args.equation c.clear_pivots.new.row c.requires.stairs.rows c.requires.row differ c.in-None.ensures

pub returns-clause-stairs : goal.returns-clause-stairs
returns-clause-stairs c =
    let rule = c.normalise.new.self in
    let row = c.clear_pivots.new.row in
    rw c.in_ok-insert.ensures.items
    (IsStairs-insert c.args.modulus.now c.args.order c.args.table.now.items rule c.in-Some.pivot.now c.free_place-place.result c.requires.stairs
    (IsRow-in c.args.modulus.now row.order c.args.order rule c.clear_pivots.ensures.row.ordered c.normalise.ensures.row)
    (subst (λ o. IsPivot o rule c.in-Some.pivot.now) c.clear_pivots.ensures.row.ordered (c.in_ok-normalise.ensures.pivot c.in-Some.pivot.now c.in-Some.ensures))
    (subst (λ table. IsPlaceFor c.args.order table c.in-Some.pivot.now c.free_place-place.result) c.deref-2.ensures.value c.free_place-place.ensures))

pub returns-clause-span : goal.returns-clause-span
returns-clause-span c =
    let rule = c.normalise.new.self in
    let row = c.clear_pivots.new.row in
    let differ = subst (λ table. DifferBySpan c.args.modulus.now table c.args.equation row) c.deref.ensures.value c.in_ok-clear_pivots.ensures.differ in
    let scaled = c.in_ok-normalise.ensures.scaled c.in-Some.pivot.now c.in-Some.ensures in
    rw c.in_ok-insert.ensures.items
    (rule_span c.args.modulus.now c.args.order c.args.table.now.items c.args.equation row rule scaled.0 (coefficient row c.in-Some.pivot.now) c.free_place-place.result (positive_of c.args.modulus.now c.args.order row c.in-Some.pivot.now c.clear_pivots.ensures.row)
    c.requires.stairs.rows c.requires.row c.clear_pivots.ensures.row (IsRow-in c.args.modulus.now row.order c.args.order rule c.clear_pivots.ensures.row.ordered c.normalise.ensures.row) differ scaled.1 scaled.2)
