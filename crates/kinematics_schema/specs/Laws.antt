-- Laws of the reading of the file of kinematics. The project's own.
use Rattle.yaml_text.specs.declared.tree.Tree.{Tree}
use Rattle.input_schema.specs.Readings.{IsSingle, NeverSaysMissing}
use Rattle.kinematics_schema.specs.KinematicsFile.{ReadsKinematics}

abbrev pub KinematicsAreSingle : Type 0
KinematicsAreSingle = (tree : Tree) → IsSingle (ReadsKinematics tree)

abbrev pub KinematicsNeverSayMissing : Type 0
KinematicsNeverSayMissing = (tree : Tree) → NeverSaysMissing (ReadsKinematics tree)
