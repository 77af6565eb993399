use Rattle.std.proofs.Common.{◌∙◌, Ok, Err}
use Rattle.kira_app.specs.declared.refusal.Refusal.{Refusal}
use Rattle.kira_app.specs.Told.{IsMissed}
use Rattle.kira_app.proofs.ListLoading.{err_refusal}
use Rattle.kira_app.proofs.Told.{err_told}
use Rattle.kira_app.proofs.Causes.{plan_told, sources_refused, missing_in}
use Rattle.kira_app.specs.Plans.{PlanOf}
use Rattle.kira_app.specs.Words.{job_file, overrides_of}
use Rattle.kira_app.specs.Loads.{AllLoaded}
use Rattle.kira_app.specs.Sources.{Sources}
use Rattle.kira_app.proofs.LoadOrder.{all_then_some, loaded_as, on_ok, not_ok}
use Rattle.kira_app.proofs.top.plan_of.Goals as goal

pub returns-in_err-sources-clause-missing : goal.returns-in_err-sources-clause-missing
returns-in_err-sources-clause-missing g c = err_refusal _ _ (λ (r : Refusal). IsMissed _ _ _ r.status) c.from_residual.ensures.1 c.in_err-sources.ensures.missing

pub returns-in_err-sources-clause-plan : goal.returns-in_err-sources-clause-plan
returns-in_err-sources-clause-plan g c = λ words is.
    let refusal = c.in_err-sources.field-0.0 in
    err_told _ _ _ (PlanOf words) _ refusal c.from_residual.ensures.1
    (sources_refused _ _ _ words c.deref.result.now c.args.job.now.job_file.now refusal is.called is.served (c.deref.ensures.value ∙ is.overrides) is.job_file c.in_err-sources.ensures.sources)

pub returns-clause-plan : goal.returns-clause-plan
returns-clause-plan g c = λ words is.
    let found = c.in_ok-sources.ensures.sources in
    plan_told _ _ _ words c.deref.result.now c.deref-2.result.now c.args.job.now.job_file.now c.in_ok-sources.sources c.plan.result
    is.called is.served (c.deref.ensures.value ∙ is.overrides) (c.deref-2.ensures.value ∙ is.overrides) is.job_file found.1 found.0 c.plan.ensures

pub returns-clause-missing : goal.returns-clause-missing
returns-clause-missing g c = missing_in c.jobs_never_say_missing.ensures.outlines c.jobs_never_say_missing.ensures.plans _ _ _ c.deref-2.result.now c.in_ok-sources.sources c.plan.result c.plan.ensures

pub returns-in_err-sources-clause-loads_some : goal.returns-in_err-sources-clause-loads_some
returns-in_err-sources-clause-loads_some g c = λ words is.
    loaded_as {A = Sources} c.deref.result.now (overrides_of words) c.args.job.now.job_file.now (job_file words) (g.F.Files.held c.args.files.now) (g.F.Files.loaded c.args.files.now) (g.F.Files.loaded c.sources.new.files) (Err c.in_err-sources.field-0.0) (c.deref.ensures.value ∙ is.overrides) is.job_file c.in_err-sources.ensures.loads

pub returns-clause-loads_some : goal.returns-clause-loads_some
returns-clause-loads_some g c = λ words is.
    let all = loaded_as c.deref.result.now (overrides_of words) c.args.job.now.job_file.now (job_file words) (g.F.Files.held c.args.files.now) (g.F.Files.loaded c.args.files.now) (g.F.Files.loaded c.sources.new.files) (Ok c.in_ok-sources.sources) (c.deref.ensures.value ∙ is.overrides) is.job_file c.in_ok-sources.ensures.loads in
    all_then_some (overrides_of words) (job_file words) (g.F.Files.held c.args.files.now) (g.F.Files.loaded c.args.files.now) (g.F.Files.loaded c.sources.new.files) all

pub returns-clause-loads : goal.returns-clause-loads
returns-clause-loads g c = λ words is.
    on_ok c.plan.result (AllLoaded words (g.F.Files.held c.args.files.now) (g.F.Files.loaded c.args.files.now) (g.F.Files.loaded c.sources.new.files))
    (loaded_as c.deref.result.now (overrides_of words) c.args.job.now.job_file.now (job_file words) (g.F.Files.held c.args.files.now) (g.F.Files.loaded c.args.files.now) (g.F.Files.loaded c.sources.new.files) (Ok c.in_ok-sources.sources) (c.deref.ensures.value ∙ is.overrides) is.job_file c.in_ok-sources.ensures.loads)

pub returns-in_err-sources-clause-loads : goal.returns-in_err-sources-clause-loads
returns-in_err-sources-clause-loads g c = λ words is. not_ok _ _ _ c.from_residual.ensures.1
