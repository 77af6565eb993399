use Rattle.std.proofs.Common.{codes, [], ◌∷◌}
use Rattle.input_schema.specs.declared.faults.File.TheVariants.{Families}
use Rattle.kira_app.specs.Steps.{plain, plainly}
use Rattle.kira_app.specs.Sources.{TreeOf, KinematicsOf, FamiliesOf}
use Rattle.kira_app.proofs.Told.{goes_on, stops, err_plain}
use Rattle.kira_app.proofs.LoadOrder.{loads_all, some_first, loads_for, err_loads, loads_both}
use Rattle.kira_app.proofs.loading.load_families.Goals as goal

pub returns-clause-trees : goal.returns-clause-trees
returns-clause-trees g c =
    let first = c.in_ok-families.ensures in
    goes_on _ _ _ _ _ (TreeOf Families (codes "config/integralfamilies.yaml")) (KinematicsOf c.args.jobs) c.in_ok-families.families (plainly c.load_kinematics.result)
    first.same first.tree.1 first.tree.0 c.load_kinematics.ensures.trees

pub returns-in_err-families-clause-trees : goal.returns-in_err-families-clause-trees
returns-in_err-families-clause-trees g c =
    err_plain _ _ _ (FamiliesOf c.args.jobs) _ _ c.from_residual.ensures.1
    (stops _ _ _ (TreeOf Families (codes "config/integralfamilies.yaml")) (KinematicsOf c.args.jobs) (plain _) c.in_err-families.ensures.tree)

pub returns-clause-loads : goal.returns-clause-loads
returns-clause-loads g c =
    loads_for (g.F.Files.loaded c.args.files.now) (g.F.Files.loaded c.load_kinematics.new.files) (codes "config/integralfamilies.yaml" ∷ codes "config/kinematics.yaml" ∷ []) c.load_kinematics.result
    (loads_both (g.F.Files.loaded c.args.files.now) (g.F.Files.loaded c.load_tree.new.files) (g.F.Files.loaded c.load_kinematics.new.files) (codes "config/integralfamilies.yaml" ∷ []) (codes "config/kinematics.yaml" ∷ []) c.in_ok-families.ensures.loads c.load_kinematics.ensures.loads)

pub returns-in_err-families-clause-loads : goal.returns-in_err-families-clause-loads
returns-in_err-families-clause-loads g c =
    err_loads (g.F.Files.loaded c.args.files.now) (g.F.Files.loaded c.load_tree.new.files) (codes "config/integralfamilies.yaml" ∷ codes "config/kinematics.yaml" ∷ []) _ _ c.from_residual.ensures.1
    (some_first (g.F.Files.loaded c.args.files.now) (g.F.Files.loaded c.load_tree.new.files) (codes "config/integralfamilies.yaml" ∷ []) (codes "config/kinematics.yaml" ∷ []) (loads_all (g.F.Files.loaded c.args.files.now) (g.F.Files.loaded c.load_tree.new.files) (codes "config/integralfamilies.yaml" ∷ []) c.in_err-families.ensures.loads))
