use Rattle.std.proofs.Common.{ℕ, List, subst}
use Rattle.input_schema.specs.Readings as input
use Rattle.kira_app.specs.Steps.{OfReading, plainly}
use Rattle.kira_app.specs.Told.{Answers}
use Rattle.kira_app.specs.Sources.{tree_in}
use Rattle.kira_app.proofs.Loaded.{loaded}
use Rattle.kira_app.proofs.loading.load_tree.Goals as goal

pub returns-in-Ok-clause-tree : goal.returns-in-Ok-clause-tree
returns-in-Ok-clause-tree g c =
    loaded _ _ _ c.args.file c.args.name.now c.in-Ok.bytes.items c.parse.result c.in-Ok.ensures.bytes c.in-Ok.ensures.ok_count
    (subst (λ (bytes : List ℕ). Answers (OfReading (input.Is (tree_in c.args.file bytes))) (plainly c.parse.result)) c.deref.ensures.value c.parse.ensures.tree)
