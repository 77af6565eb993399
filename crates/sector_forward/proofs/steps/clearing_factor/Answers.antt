-- The factor is the opposite of the coefficient at the pivot.
use Rattle.std.proofs.Common.{ap, ◌∙◌, ◌-◌, ◌%◌}
use Rattle.sector_forward.proofs.StepLemmas.{clears_from}
use Rattle.sector_forward.proofs.steps.clearing_factor.Goals as goal

pub returns-clause-clears : goal.returns-clause-clears
returns-clause-clears c =
    clears_from c.args.modulus.now c.args.order c.args.rule.now.order c.args.row.now c.args.rule.now c.in-Some.pivot.now c.neg.result c.requires.rule.ordered c.requires.row c.in-Some.ensures
    (c.neg.ensures.value ∙ ap (λ u. (c.args.modulus.now - u) % c.args.modulus.now) c.coefficient.ensures)
