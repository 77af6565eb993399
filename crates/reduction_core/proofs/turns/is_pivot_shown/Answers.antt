-- The greatest integral of the rule is its pivot.
use Rattle.reduction_core.proofs.TurnLemmas.{shown_tested, empty_shows_none}
use Rattle.reduction_core.proofs.turns.is_pivot_shown.Goals as goal

pub returns-in-Some : goal.returns-in-Some
returns-in-Some c = λ rows are.
    let is = c.requires.rule.1 in
    let x = c.in-Some.x.now in
    shown_tested c.requires.rule.0 c.args.order c.args.rule.now.order rows c.args.rule.now x c.is_shown.result is is.ordered c.in-Some.ensures
    (λ test. (are.members x).0 (c.is_shown.ensures.0 test), λ shown. c.is_shown.ensures.1 ((are.members x).1 shown))

pub returns-in-None : goal.returns-in-None
returns-in-None c = λ rows are. empty_shows_none c.requires.rule.0 c.args.order rows c.args.rule.now c.requires.rule.1 c.in-None.ensures
