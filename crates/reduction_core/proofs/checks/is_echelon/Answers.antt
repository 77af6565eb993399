-- Each row has a pivot, and is below all that follow.
use Rattle.sparse_row.specs.ReducedList.{IsEchelon}
use Rattle.reduction_core.specs.Checks.{StandsAt}
use Rattle.reduction_core.proofs.CheckLemmas.{untrue, never, always, echelon_from_pairs, pairs_from_echelon, pairs_more, pairs_all, stands_from_pairs}
use Rattle.std.proofs.Common.{All}
use Rattle.sector_forward.specs.Steps.{HasPivot}
use Rattle.reduction_core.proofs.checks.is_echelon.Goals as goal

pub returns-then-not-have_pivots : goal.returns-then-not-have_pivots
returns-then-not-have_pivots c =
    λ p rows. never (IsEchelon p c.args.order c.args.table.now) (λ e. untrue c.have_pivots.result (All (HasPivot c.args.order) c.args.table.now) c.if-not-have_pivots.true c.have_pivots.ensures e.pivots)

pub returns-then-not-stands_below_rest : goal.returns-then-not-stands_below_rest
returns-then-not-stands_below_rest c =
    λ p rows.
    never (IsEchelon p c.args.order c.args.table.now)
    (λ e.
    untrue c.stands_below_rest.result (StandsAt c.args.order c.args.table.now c.loop-k.k) c.if-not-stands_below_rest.true c.stands_below_rest.ensures
    (stands_from_pairs c.args.order c.args.table.now c.loop-k.k (pairs_from_echelon p c.args.order c.args.table.now e)))

pub loop-k-preserved : goal.loop-k-preserved
loop-k-preserved c = pairs_more c.args.order c.args.table.now c.loop-k.k c.loop-k.invariant (c.stands_below_rest.ensures.0 c.if-not-stands_below_rest.false)

pub returns : goal.returns
returns c =
    λ p rows.
    always (IsEchelon p c.args.order c.args.table.now)
    (echelon_from_pairs p c.args.order c.args.table.now rows (c.have_pivots.ensures.0 c.if-not-have_pivots.false) (pairs_all c.args.order c.args.table.now c.loop-k.k c.loop-k-test.false c.loop-k.invariant))
