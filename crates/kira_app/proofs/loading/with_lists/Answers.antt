use Rattle.std.proofs.Common.{◌≤◌, ◌^◌, ◌∙◌, length, Ok, ap}
use Rattle.std.proofs.lemmas.List.{length-map}
use Rattle.std.proofs.lemmas.List.Elements.{All-map}
use Rattle.yaml_text.specs.Lines.{Bytes}
use Rattle.job_schema.specs.declared.selections.Selection.{Selection}
use Rattle.job_point.specs.Steps.{Is}
use Rattle.kira_app.specs.Loads.{names_of}
use Rattle.kira_app.specs.Sources.{ListsOf, SourcesWith}
use Rattle.kira_app.proofs.Told.{stops, err_told}
use Rattle.kira_app.proofs.LoadOrder.{err_loads}
use Rattle.kira_app.proofs.loading.with_lists.Goals as goal

pub returns-in_err-lists-clause-sources : goal.returns-in_err-lists-clause-sources
returns-in_err-lists-clause-sources g c =
    err_told _ _ _ (SourcesWith c.args.trees c.args.outline.now) _ _ c.from_residual.ensures.1
    (stops _ _ _ (ListsOf c.args.outline.now.select.files) (λ lists files. Is (Ok (record { trees = c.args.trees; lists = lists }))) _ c.in_err-lists.ensures.lists)

pub invariant_of-result : goal.invariant_of-result
invariant_of-result g c =
    let trees = c.args.trees in
    record {
      short = All-map (λ (text : Bytes). length text ≤ 2 ^ 24) (λ text. text.items) c.in_ok-lists.lists.items c.in_ok-lists.ensures.short;
      count = λ overrides outline h.
          length-map c.in_ok-lists.lists.items (λ text. text.items) ∙ c.in_ok-lists.ensures.count
          ∙ ap (λ (select : Selection). length select.files)
          (c.outlines_have_a_modulus.ensures.selection trees.families trees.kinematics trees.jobs c.args.overrides.now overrides c.args.outline.now outline c.requires h);
    }

pub returns-in_err-lists-clause-loads : goal.returns-in_err-lists-clause-loads
returns-in_err-lists-clause-loads g c = err_loads (g.F.Files.loaded c.args.files.now) (g.F.Files.loaded c.load_lists.new.files) (names_of c.args.outline.now.select.files) _ _ c.from_residual.ensures.1 c.in_err-lists.ensures.loads
