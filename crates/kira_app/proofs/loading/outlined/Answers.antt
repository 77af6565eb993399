use Rattle.std.proofs.Common.{Ok, List, refl}
use Rattle.job_schema.specs.Overridden.{Override}
use Rattle.job_outline.specs.Outlines.{Outline}
use Rattle.kira_app.specs.declared.job_files.Trees.{Trees}
use Rattle.job_point.specs.Steps.{Is, Then}
use Rattle.kira_app.specs.Steps.{Step, plain}
use Rattle.kira_app.specs.Loads.{three_files}
use Rattle.kira_app.specs.Told.{IsMissed}
use Rattle.kira_app.specs.Sources.{TreesOf, OutlineOf, Outlines}
use Rattle.kira_app.proofs.Told.{weaker, then_is, err_plain, of_error, refused_then, told_later, missing_said}
use Rattle.kira_app.proofs.Present.{outline_present}
use Rattle.kira_app.proofs.LoadOrder.{loads_all, err_loads}
use Rattle.kira_app.proofs.loading.outlined.Goals as goal

-- what follows an outline, and what follows the trees
abbrev Both : Trees → Outline → Step (Trees × Outline)
Both trees outline = Is (Ok (trees, outline))

abbrev Outlined : List Override → Trees → Step (Trees × Outline)
Outlined overrides trees = Then (OutlineOf overrides trees) (Both trees)

pub returns-in_err-trees-clause-missing : goal.returns-in_err-trees-clause-missing
returns-in_err-trees-clause-missing g c = of_error _ _ (IsMissed _ _ _) c.from_residual.ensures.1 c.in_err-trees.ensures.missing

pub returns-in_err-outline-clause-outlines : goal.returns-in_err-outline-clause-outlines
returns-in_err-outline-clause-outlines g c =
    err_plain _ _ _ (Outlines c.args.overrides.now c.args.jobfile.now) _ _ c.from_residual-in_err-outline.ensures.1
    (told_later _ _ _ (TreesOf c.args.jobfile.now) (Outlined c.args.overrides.now) c.in_ok-trees.trees (plain _) c.in_ok-trees.ensures.trees.1 c.in_ok-trees.ensures.trees.0
    (refused_then (OutlineOf c.args.overrides.now c.in_ok-trees.trees) (Both c.in_ok-trees.trees) (plain _) c.in_err-outline.ensures))

pub returns-in_err-outline-clause-missing : goal.returns-in_err-outline-clause-missing
returns-in_err-outline-clause-missing g c =
    of_error _ _ (IsMissed _ _ _) c.from_residual-in_err-outline.ensures.1
    (λ untold missing. absurd (outline_present c.jobs_never_say_missing.ensures.outlines c.args.overrides.now c.in_ok-trees.trees (plain _)
    (missing_said _ _ _ missing c.in_err-outline.ensures) missing))

pub returns-clause-outlines : goal.returns-clause-outlines
returns-clause-outlines g c =
    let overrides = c.args.overrides.now in
    let trees = c.in_ok-trees.trees in
    let outline = c.in_ok-outline.outline in (
      weaker (g.F.Files.held c.args.files.now) (λ files. TreesOf c.args.jobfile.now files (Ok trees)) (λ files. Outlines overrides c.args.jobfile.now files (Ok (trees, outline)))
          (λ files found. then_is (TreesOf c.args.jobfile.now files) (Outlined overrides) trees (Ok (trees, outline)) found
          (then_is (OutlineOf overrides trees) (Both trees) outline (Ok (trees, outline)) c.in_ok-outline.ensures refl))
          c.in_ok-trees.ensures.trees.0,
      c.in_ok-trees.ensures.trees.1,
    )

pub returns-in_err-trees-clause-loads : goal.returns-in_err-trees-clause-loads
returns-in_err-trees-clause-loads g c = err_loads (g.F.Files.loaded c.args.files.now) (g.F.Files.loaded c.load_trees.new.files) (three_files c.args.jobfile.now) _ _ c.from_residual.ensures.1 c.in_err-trees.ensures.loads

pub returns-in_err-outline-clause-loads : goal.returns-in_err-outline-clause-loads
returns-in_err-outline-clause-loads g c = err_loads (g.F.Files.loaded c.args.files.now) (g.F.Files.loaded c.load_trees.new.files) (three_files c.args.jobfile.now) _ _ c.from_residual-in_err-outline.ensures.1 (loads_all (g.F.Files.loaded c.args.files.now) (g.F.Files.loaded c.load_trees.new.files) (three_files c.args.jobfile.now) c.in_ok-trees.ensures.loads)
