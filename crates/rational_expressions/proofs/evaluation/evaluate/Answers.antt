use Rattle.std.proofs.Common.{arith}
use Rattle.std.proofs.lemmas.Result.{err_from_is_err_and}
use Rattle.rational_expressions.proofs.EvaluationLemmas.{item_fits, outcome_of, runs_at, runs_at_end}
use Rattle.rational_expressions.proofs.evaluation.evaluate.Goals as goal

pub run_item-requires-clause-fits : goal.run_item-requires-clause-fits
run_item-requires-clause-fits c =
    item_fits _ c.loop-item.item-index c.args.items.now _ (omega arith) c.loop-item.invariant.fits

pub returns-in_err-run_item-clause-outcome : goal.returns-in_err-run_item-clause-outcome
returns-in_err-run_item-clause-outcome c =
    let e = err_from_is_err_and c.from_residual.result c.from_residual.ensures.1 in
    rw (e.1, e.2) (outcome_of _ _ c.args.items.now _ c.requires.program
    (c.loop-item.invariant.runs _ (runs_at _ _ c.args.items.now c.loop-item.item-index _ _ _ (omega arith) (c.in_err-run_item.ensures.fault _))))

pub returns-clause-outcome : goal.returns-clause-outcome
returns-clause-outcome c =
    outcome_of _ _ c.args.items.now _ c.requires.program
    (c.loop-item.invariant.runs _ (runs_at_end _ _ c.args.items.now c.loop-item.item-index _ _ _ (omega arith) c.pop.ensures.value))
