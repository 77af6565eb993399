use Rattle.std.proofs.Common.{codes, Ok, refl}
use Rattle.input_schema.specs.declared.faults.File.TheVariants.{Kinematics}
use Rattle.job_point.specs.Steps.{Is}
use Rattle.kira_app.specs.Steps.{plain}
use Rattle.kira_app.specs.Sources.{TreeOf, KinematicsOf}
use Rattle.kira_app.proofs.Told.{weaker, then_is, stops, err_plain}
use Rattle.kira_app.proofs.loading.load_kinematics.Goals as goal

pub returns-in_err-kinematics-clause-trees : goal.returns-in_err-kinematics-clause-trees
returns-in_err-kinematics-clause-trees g c =
    err_plain _ _ _ (KinematicsOf c.args.jobs c.args.families) _ _ c.from_residual.ensures.1
    (stops _ _ _ (TreeOf Kinematics (codes "config/kinematics.yaml")) (λ kinematics files. Is (Ok (record { jobs = c.args.jobs; families = c.args.families; kinematics = kinematics }))) (plain _) c.in_err-kinematics.ensures.tree)

pub returns-clause-trees : goal.returns-clause-trees
returns-clause-trees g c = (
  weaker (g.F.Files.held c.args.files.now) (λ files. TreeOf Kinematics (codes "config/kinematics.yaml") files (Ok c.in_ok-kinematics.kinematics)) _
      (λ files found. then_is (TreeOf Kinematics (codes "config/kinematics.yaml") files) _ c.in_ok-kinematics.kinematics _ found refl) c.in_ok-kinematics.ensures.tree.0,
  c.in_ok-kinematics.ensures.tree.1,
)
