use Rattle.input_schema.specs.declared.faults.File.TheVariants.{Jobs}
use Rattle.kira_app.specs.Steps.{plain, plainly}
use Rattle.kira_app.specs.Sources.{TreeOf, FamiliesOf, TreesOf}
use Rattle.kira_app.proofs.Told.{goes_on, stops, err_plain}
use Rattle.std.proofs.Common.{codes, [], ◌∷◌}
use Rattle.kira_app.proofs.LoadOrder.{loads_all, some_first, err_loads, then_loads}
use Rattle.kira_app.proofs.loading.load_trees.Goals as goal

pub returns-clause-trees : goal.returns-clause-trees
returns-clause-trees g c =
    let first = c.in_ok-jobs.ensures in
    goes_on _ _ _ _ _ (TreeOf Jobs c.args.name.now) FamiliesOf c.in_ok-jobs.jobs (plainly c.load_families.result)
    first.same first.tree.1 first.tree.0 c.load_families.ensures.trees

pub returns-in_err-jobs-clause-trees : goal.returns-in_err-jobs-clause-trees
returns-in_err-jobs-clause-trees g c =
    err_plain _ _ _ (TreesOf c.args.name.now) _ _ c.from_residual.ensures.1
    (stops _ _ _ (TreeOf Jobs c.args.name.now) FamiliesOf (plain _) c.in_err-jobs.ensures.tree)

pub returns-clause-loads : goal.returns-clause-loads
returns-clause-loads g c = then_loads (g.F.Files.loaded c.args.files.now) (g.F.Files.loaded c.load_tree.new.files) (g.F.Files.loaded c.load_families.new.files) (c.args.name.now ∷ []) (codes "config/integralfamilies.yaml" ∷ codes "config/kinematics.yaml" ∷ []) c.load_families.result c.in_ok-jobs.ensures.loads c.load_families.ensures.loads

pub returns-in_err-jobs-clause-loads : goal.returns-in_err-jobs-clause-loads
returns-in_err-jobs-clause-loads g c =
    err_loads (g.F.Files.loaded c.args.files.now) (g.F.Files.loaded c.load_tree.new.files) (c.args.name.now ∷ codes "config/integralfamilies.yaml" ∷ codes "config/kinematics.yaml" ∷ []) _ _ c.from_residual.ensures.1
    (some_first (g.F.Files.loaded c.args.files.now) (g.F.Files.loaded c.load_tree.new.files) (c.args.name.now ∷ []) (codes "config/integralfamilies.yaml" ∷ codes "config/kinematics.yaml" ∷ []) (loads_all (g.F.Files.loaded c.args.files.now) (g.F.Files.loaded c.load_tree.new.files) (c.args.name.now ∷ []) c.in_err-jobs.ensures.loads))
