-- Each rule whose pivot is shown is put behind the others.
use Rattle.std.proofs.Common.{◌≡◌, ◌++◌, take, filter, sym, ◌∙◌}
use Rattle.sector_machine.specs.Tasks.{shows_pivot_of}
use Rattle.reduction_core.proofs.TurnLemmas.{kept_more, left_more}
use Rattle.reduction_core.proofs.turns.push_shown.Goals as goal
use Rattle.reduction_core.proofs.turns.push_shown.Goals.{then-is_pivot_shown+in_ok-copy+in_ok-push, else-is_pivot_shown}

pub loop-rule-preserved : goal.loop-rule-preserved
loop-rule-preserved c rows are =
    let test = shows_pivot_of c.args.order rows in
    let before = c.args.below.now.items in
    let rules = c.args.rules.now in
    let rule = c.rule-item.result in
    let n = c.loop-rule.rule-index in
    let is : c.is_pivot_shown.result ≡ test rule = c.is_pivot_shown.ensures rows are in
    let so_far : c.loop-rule.below.items ≡ before ++ filter test (take n rules) = c.loop-rule.invariant rows are in
    elim c.if-is_pivot_shown.branch [
      | then-is_pivot_shown+in_ok-copy+in_ok-push w ↦
          rw (w.below-is, w.in_ok-push.ensures.items, w.in_ok-copy.ensures)
          (kept_more test before c.loop-rule.below.items rules n rule c.loop-rule-test.true c.rule-item.is (sym is ∙ w.if-is_pivot_shown.true) so_far)
      | else-is_pivot_shown w ↦
          rw w.below-is
          (left_more test before c.loop-rule.below.items rules n rule c.loop-rule-test.true c.rule-item.is (sym is ∙ w.if-is_pivot_shown.false) so_far)
    ]
