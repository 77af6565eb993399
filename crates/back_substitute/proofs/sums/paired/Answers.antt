-- One sum more, and two rows less.
use Rattle.back_substitute.proofs.Pairs.{IsPairing-step}
use Rattle.back_substitute.proofs.sums.paired.Goals as goal

pub loop-row-preserved : goal.loop-row-preserved
loop-row-preserved c =
    rw c.in_ok-push.ensures.items
    (IsPairing-step c.args.modulus.now c.args.order c.args.rows.items c.loop-row.made.items c.loop-row.rest.items c.pop.new.self.items c.with_last.new.others.items c.in-Some.row c.in_ok-sum.sum c.in-Some.ensures.items c.in_ok-sum.ensures c.loop-row.invariant)
