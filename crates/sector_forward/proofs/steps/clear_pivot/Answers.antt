-- The sum with the multiple shows no more of the pivot.
use Rattle.std.proofs.lemmas.Result.{on_ok_weaker}
use Rattle.sector_forward.proofs.StepLemmas.{IsCleared-from}
use Rattle.sector_forward.proofs.steps.clear_pivot.Goals as goal

pub returns-clause-cleared : goal.returns-clause-cleared
returns-clause-cleared c =
    on_ok_weaker c.add_multiple.result
    (IsCleared-from c.args.modulus.now c.args.order c.args.rule.now c.args.row.now c.add_multiple.new.self c.clearing_factor-factor.result c.clearing_factor-factor.ensures.clears)
    c.add_multiple.ensures.sum
