use Rattle.std.specs.Prelude.{◌≡◌, Contains}
use Rattle.std.proofs.lemmas.Result.{err_from_is_err_and}
use Rattle.seed_sets.specs.Gathering.{IsAmong}
use Rattle.seed_sets.proofs.GatheringLemmas.{Gains-push, IsCause-weaker}
use Rattle.seed_sets.proofs.gathering.add.Goals as goal

pub returns-in_err-settle-clause-many : goal.returns-in_err-settle-clause-many
returns-in_err-settle-clause-many c =
    let p = err_from_is_err_and c.from_residual-in_err-settle.result c.from_residual-in_err-settle.ensures.1 in
    let pushed = Gains-push c.args.found.now.items c.push.new.self.items c.args.integral c.in_ok-push.ensures.items in
    rw (p.1, p.2) (IsCause-weaker c.args.limit.order c.args.limit.most (Contains c.push.new.self.items) (IsAmong c.args.found.now.items (λ y. c.args.integral ≡ y)) (λ y m. (pushed y).0 m) c.in_err-settle.field-0.0 c.in_err-settle.ensures.many)

pub returns-in_ok-settle-clause-members : goal.returns-in_ok-settle-clause-members
returns-in_ok-settle-clause-members c = λ y.
    let pushed = Gains-push c.args.found.now.items c.push.new.self.items c.args.integral c.in_ok-push.ensures.items in (
      λ m. (pushed y).0 ((c.in_ok-settle.ensures.members y).0 m),
      λ w. (c.in_ok-settle.ensures.members y).1 ((pushed y).1 w),
    )
