-- The front of the stairs is stairs.
use Rattle.std.proofs.Common.{◌+◌, arith}
use Rattle.std.proofs.lemmas.List.{length-take-le}
use Rattle.sector_forward.proofs.StepLemmas.{IsStairs-take, ShowsNoneWithin-take, match_weaker}
use Rattle.sector_forward.proofs.steps.last_shown_before.Goals as goal

pub last_shown-requires-clause-stairs : goal.last_shown-requires-clause-stairs
last_shown-requires-clause-stairs c =
    (c.requires.stairs.0, IsStairs-take c.requires.stairs.0 c.args.order c.args.rows.now c.args.bound c.requires.within c.requires.stairs.1)

pub returns : goal.returns
returns c =
    let len = length-take-le c.args.bound c.args.rows.now c.requires.within in
    match_weaker c.last_shown.result (ShowsNoneWithin-take c.args.order c.args.rows.now c.args.bound 0 c.args.row.now c.requires.within)
    (λ place h. (omega (arith, len, h.0), ShowsNoneWithin-take c.args.order c.args.rows.now c.args.bound (place + 1) c.args.row.now c.requires.within h.1))
    c.last_shown.ensures
