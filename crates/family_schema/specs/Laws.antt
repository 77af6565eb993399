-- Laws of the reading of the file of integral families. The project's own.
use Rattle.yaml_text.specs.declared.tree.Tree.{Tree}
use Rattle.input_schema.specs.Readings.{IsSingle, NeverSaysMissing}
use Rattle.kinematics_schema.specs.declared.content.Kinematics.{Kinematics}
use Rattle.family_schema.specs.FamilyFile.{ReadsFamilies}

abbrev pub FamiliesAreSingle : Type 0
FamiliesAreSingle = (kinematics : Kinematics) (tree : Tree) → IsSingle (ReadsFamilies kinematics tree)

abbrev pub FamiliesNeverSayMissing : Type 0
FamiliesNeverSayMissing = (kinematics : Kinematics) (tree : Tree) → NeverSaysMissing (ReadsFamilies kinematics tree)
