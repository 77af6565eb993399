use Rattle.std.proofs.lemmas.Result.{IfOk-weaker}
use Rattle.std.proofs.Common.{◌∙◌}
use Rattle.job_outline.proofs.Jobs.{IsJob, jobs_kept}
use Rattle.job_outline.proofs.NameLemmas.{named_all}
use Rattle.job_outline.proofs.reader.job_of.Goals as goal

pub returns-clause-reduce : goal.returns-clause-reduce
returns-clause-reduce c =
    let families = c.args.families.now in
    let names = c.deref.result.now in
    let kept =
    jobs_kept families names (named_all families names (c.deref.ensures.value ∙ c.in_ok-names.ensures)) c.args.parameters.now c.args.tree.now c.read_jobs.result
    (rw (c.deref-2.ensures.value, c.in_ok-frames.ensures.frames) at c.read_jobs.ensures) in
    IfOk-weaker c.read_jobs.result (IsJob families c.args.parameters.now) _ (λ job h. h.reduce_fits) kept

pub returns-clause-select : goal.returns-clause-select
returns-clause-select c =
    let families = c.args.families.now in
    let names = c.deref.result.now in
    let kept =
    jobs_kept families names (named_all families names (c.deref.ensures.value ∙ c.in_ok-names.ensures)) c.args.parameters.now c.args.tree.now c.read_jobs.result
    (rw (c.deref-2.ensures.value, c.in_ok-frames.ensures.frames) at c.read_jobs.ensures) in
    IfOk-weaker c.read_jobs.result (IsJob families c.args.parameters.now) _ (λ job h. h.select_fits) kept

pub returns-clause-settings : goal.returns-clause-settings
returns-clause-settings c =
    let families = c.args.families.now in
    let names = c.deref.result.now in
    let kept =
    jobs_kept families names (named_all families names (c.deref.ensures.value ∙ c.in_ok-names.ensures)) c.args.parameters.now c.args.tree.now c.read_jobs.result
    (rw (c.deref-2.ensures.value, c.in_ok-frames.ensures.frames) at c.read_jobs.ensures) in
    IfOk-weaker c.read_jobs.result (IsJob families c.args.parameters.now) _ (λ job h. h.settings) kept
