use Rattle.kira_app.specs.declared.refusal.Refusal.{Refusal}
use Rattle.kira_app.specs.Told.{IsMissed}
use Rattle.kira_app.specs.TopClauses.{StandsStill}
use Rattle.kira_app.proofs.ListLoading.{err_refusal}
use Rattle.kira_app.proofs.Causes.{plan_caused, reduction_caused, plainly_caused, err_ended, no_step, broken_off}
use Rattle.kira_app.proofs.top.ended.Goals as goal

pub returns-in_err-plan-clause-cause : goal.returns-in_err-plan-clause-cause
returns-in_err-plan-clause-cause g c =
    λ words is.
    let refusal = c.in_err-plan.field-0.0 in
    err_ended _ _ refusal c.from_residual.ensures.1 (plan_caused _ refusal.status refusal.name (c.in_err-plan.ensures.plan words is))

pub returns-in_err-plan-clause-missing : goal.returns-in_err-plan-clause-missing
returns-in_err-plan-clause-missing g c = err_refusal _ _ (λ (r : Refusal). IsMissed _ _ _ r.status) c.from_residual.ensures.1 c.in_err-plan.ensures.missing

pub returns-clause-cause : goal.returns-clause-cause
returns-clause-cause g c =
    λ words is. plainly_caused _ c.in-Err.status _ c.plain-in-Err.ensures (reduction_caused _ c.in_ok-plan.plan c.in-Err.status (c.in_ok-plan.ensures.plan words is).0 (c.in_ok-plan.ensures.plan words is).1 c.in-Err.ensures.cause)

pub returns-in_err-plan-clause-still : goal.returns-in_err-plan-clause-still
returns-in_err-plan-clause-still g c = err_refusal _ _ (λ (r : Refusal). StandsStill _ _ r.status) c.from_residual.ensures.1 (no_step _ c.in_err-plan.field-0.0.status)

pub returns-clause-still : goal.returns-clause-still
returns-clause-still g c = broken_off _ _ _ c.in-Err.status _ c.plain-in-Err.ensures c.in-Err.ensures.cause
