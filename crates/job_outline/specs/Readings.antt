-- How the three files of a job and the words are read, one after another. The project's own; the keys follow
-- Kira, arXiv:1705.05610.
use Rattle.std.specs.Prelude.{List, ◌∷◌, map, Ok, codes}
use Rattle.yaml_text.specs.declared.tree.Tree.{Tree}
use Rattle.yaml_text.specs.Lines.{Bytes}
use Rattle.input_schema.specs.Readings.{Reading, Is, Then}
use Rattle.kinematics_schema.specs.declared.content.Kinematics.{Kinematics}
use Rattle.kinematics_schema.specs.KinematicsFile.{ReadsKinematics}
use Rattle.family_schema.specs.declared.content.Family.{Family}
use Rattle.family_schema.specs.FamilyFile.{ReadsFamilies}
use Rattle.job_schema.specs.declared.frames.Frame.{Frame}
use Rattle.job_schema.specs.Overridden.{Override}
use Rattle.job_schema.specs.Jobs.{jobs}
use Rattle.job_schema.specs.Overrides.{numeric_point}
use Rattle.kinematics_schema.specs.Parameters.{others}
use Rattle.job_outline.specs.Outlines.{Outline}

-- The names whose values the numeric point gives: the dimension, and the invariants but the one that is
-- replaced by 1.
abbrev pub parameters : Kinematics → List Bytes
parameters kinematics = codes "d" ∷ others kinematics.symbol kinematics.invariants

abbrev pub names_of : List Family → List Bytes
names_of families = map (λ family. family.name) families

-- what the file of jobs has to know of a family
abbrev pub frame_of : Family → Frame
frame_of family = record { width = family.width; top_level = family.top_sectors }

-- the file of jobs, and then the words
abbrev pub ReadsJob : Kinematics → List Family → Tree → List Override → Reading Outline
ReadsJob kinematics families tree words =
    Then (Is (jobs (names_of families) (map frame_of families) (parameters kinematics) tree)) (λ job.
    Then (Is (numeric_point (parameters kinematics) job.point words)) (λ point.
    Is (Ok (record { kinematics = kinematics; families = families; reduce = job.reduce; select = job.select; point = point }))))

-- The file of kinematics comes first, then that of families, then that of jobs, and the words come last.
abbrev pub ReadsOutline : Tree → Tree → Tree → List Override → Reading Outline
ReadsOutline families kinematics jobs words =
    Then (ReadsKinematics kinematics) (λ k. Then (ReadsFamilies k families) (λ f. ReadsJob k f jobs words))
