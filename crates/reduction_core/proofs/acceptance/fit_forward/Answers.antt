-- The test of the last list completes the others.
use Rattle.reduction_core.specs.Acceptance.{FitForward}
use Rattle.sector_machine.specs.Accepted.{ShowNothingNew}
use Rattle.reduction_core.proofs.CheckLemmas.{untrue, never}
use Rattle.reduction_core.proofs.RowTests.{nothing_new_joined, nothing_new_left, nothing_new_right}
use Rattle.reduction_core.proofs.acceptance.fit_forward.Goals as goal

pub returns-then-not-show_nothing_new : goal.returns-then-not-show_nothing_new
returns-then-not-show_nothing_new c =
    never (FitForward c.args.modulus.now c.args.order c.args.unit c.args.taken.now c.args.rows.now c.args.rest.now)
    (λ fit.
    untrue c.show_nothing_new.result (ShowNothingNew c.args.taken.now c.args.rows.now) c.if-not-show_nothing_new.true c.show_nothing_new.ensures
    (nothing_new_left c.args.taken.now c.args.rows.now c.args.rest.now fit.nothing_new))

pub returns : goal.returns
returns c = (
  λ test.
      record {
        rules = c.are_rules.ensures.0 c.if-not-are_rules.false;
        outside = c.are_outside.ensures.0 c.if-not-are_outside.false;
        nothing_new = nothing_new_joined c.args.taken.now c.args.rows.now c.args.rest.now (c.show_nothing_new.ensures.0 c.if-not-show_nothing_new.false) (c.show_nothing_new-2.ensures.0 test);
      },
  λ fit. c.show_nothing_new-2.ensures.1 (nothing_new_right c.args.taken.now c.args.rows.now c.args.rest.now fit.nothing_new),
)
