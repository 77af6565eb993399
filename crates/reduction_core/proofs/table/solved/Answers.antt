-- The sum with the multiple by p - 1 has the opposites of the rule's coefficients.
use Rattle.std.proofs.Common.{◌-◌, ◌<◌, ap, arith}
use Rattle.sector_forward.proofs.StepLemmas.{IsRow-in}
use Rattle.reduction_core.proofs.TableRows.{solved_made}
use Rattle.reduction_core.proofs.table.solved.Goals as goal

pub returns-clause-value : goal.returns-clause-value
returns-clause-value c =
    let p = c.args.modulus.now in
    let large : 1 < p = omega (arith, c.value.ensures.modulus.from_3) in
    solved_made p c.args.order c.args.x.now c.args.rule.now c.in_ok-row.row c.add_multiple.new.self _ large (ap (λ u. u - 1) c.value.ensures.value) c.requires.rule c.requires.pivot c.in_ok-row.ensures.value
    (IsRow-in p c.in_ok-row.row.order c.args.order c.add_multiple.new.self c.in_ok-row.ensures.row.ordered c.add_multiple.ensures.row) c.in_ok-add_multiple.ensures.sum
