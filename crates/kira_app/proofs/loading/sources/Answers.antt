use Rattle.std.proofs.Common.{◌∙◌, sym, subst}
use Rattle.std.proofs.lemmas.Result.{IfErr-weaker}
use Rattle.kira_outside.specs.Faults.{Rose}
use Rattle.kira_app.specs.declared.refusal.Refusal.{Refusal}
use Rattle.kira_app.specs.Sources.{Outlines, SourcesWith}
use Rattle.kira_app.specs.Told.{IsMissed}
use Rattle.kira_app.proofs.Told.{goes_on}
use Rattle.kira_app.proofs.LoadOrder.{lists_loaded, trees_loaded}
use Rattle.kira_app.proofs.loading.sources.Goals as goal

pub returns-in-Ok-clause-sources : goal.returns-in-Ok-clause-sources
returns-in-Ok-clause-sources g c =
    let first = c.in-Ok.ensures in
    goes_on _ _ _ _ _ (Outlines c.args.overrides.now c.args.jobfile.now) (λ both. SourcesWith both.0 both.1) (c.in-Ok.trees, c.in-Ok.outline) c.with_lists.result
    first.same first.outlines.1 first.outlines.0 c.with_lists.ensures.sources

pub returns-in-Ok-clause-missing : goal.returns-in-Ok-clause-missing
returns-in-Ok-clause-missing g c =
    let first = c.in-Ok.ensures in
    let held = g.F.Files.held c.args.files.now in
    let before = g.F.Files.faults c.args.files.now in
    let now = g.F.Files.faults c.with_lists.new.files in
    IfErr-weaker c.with_lists.result (λ (r : Refusal). IsMissed (g.F.Files.held c.outlined.new.files) (g.F.Files.faults c.outlined.new.files) now r.status) (λ (r : Refusal). IsMissed held before now r.status)
    (λ r missed untold missing. subst (λ b. Rose b now) first.outlines.1 (missed (first.same ∙ untold) missing)) c.with_lists.ensures.missing

pub returns-in-Err-clause-missing : goal.returns-in-Err-clause-missing
returns-in-Err-clause-missing g c =
    let held = g.F.Files.held c.args.files.now in
    let before = g.F.Files.faults c.args.files.now in
    let now = g.F.Files.faults c.outlined.new.files in
    subst (λ (r : Refusal). IsMissed held before now r.status) (sym c.plain.ensures) c.in-Err.ensures.missing

pub returns-in-Ok-clause-loads : goal.returns-in-Ok-clause-loads
returns-in-Ok-clause-loads g c =
    let first = c.in-Ok.ensures in
    lists_loaded c.args.overrides.now c.args.jobfile.now (g.F.Files.held c.args.files.now) (g.F.Files.loaded c.args.files.now) (g.F.Files.loaded c.outlined.new.files) (g.F.Files.loaded c.with_lists.new.files) c.in-Ok.trees c.in-Ok.outline c.with_lists.result first.outlines.0 first.loads c.with_lists.ensures.loads

pub returns-in-Err-clause-loads : goal.returns-in-Err-clause-loads
returns-in-Err-clause-loads g c = trees_loaded c.args.overrides.now c.args.jobfile.now (g.F.Files.held c.args.files.now) (g.F.Files.loaded c.args.files.now) (g.F.Files.loaded c.outlined.new.files) c.in-Err.ensures.loads
