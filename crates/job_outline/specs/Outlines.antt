-- What the three files of a job and the words say, as `Outline` is seen. The project's own; the keys follow
-- Kira, arXiv:1705.05610.
use Rattle.std.specs.Prelude.{◌≡◌, ◌<◌, ◌≤◌, List, length, All, refl}
use Rattle.std.specs.Coded.{Coded, code_by, coded×, coded_list}
use Rattle.seed_sets.specs.declared.Spec.{Spec}
use Rattle.seed_sets.specs.contracts.Spec as spec_contracts
use Rattle.seed_sets.specs.Seeds.{IsFitting}
use Rattle.kinematics_schema.specs.declared.content.Kinematics.{Kinematics}
use Rattle.kinematics_schema.specs.contracts.content.Kinematics as kinematics_contracts
use Rattle.kinematics_schema.specs.Sound as kinematics_file
use Rattle.family_schema.specs.declared.content.Family.{Family}
use Rattle.family_schema.specs.contracts.content.Family as family_contracts
use Rattle.family_schema.specs.Sound as family_file
use Rattle.job_schema.specs.declared.selections.Selection.{Selection}
use Rattle.job_schema.specs.contracts.selections.Selection as selection_contracts
use Rattle.job_schema.specs.declared.points.NumericPoint.{NumericPoint}
use Rattle.job_schema.specs.contracts.points.NumericPoint as point_contracts
use Rattle.kinematics_schema.specs.Parameters.{parameter_count}
use Rattle.job_outline.specs.Shapes.{shapes_of}

-- the kinematics, the families, the specs whose seeds give the equations, what is selected, and the point
pub record Outline : Type 0 where
  pub kinematics : Kinematics
  pub families : List Family
  pub reduce : List Spec
  pub select : Selection
  pub point : NumericPoint

-- an outline is stored as its fields
abbrev pub outline_code : Coded Outline
outline_code =
    code_by (Kinematics × (List Family × (List Spec × (Selection × NumericPoint))))
    (coded× (kinematics_contracts.the_row).coded (coded× (coded_list (family_contracts.the_row).coded) (coded× (coded_list (spec_contracts.the_row).coded) (coded× (selection_contracts.the_row).coded (point_contracts.the_row).coded))))
    (λ o. (o.kinematics, (o.families, (o.reduce, (o.select, o.point)))))
    (λ p. record { kinematics = p.0; families = p.1.0; reduce = p.1.1.0; select = p.1.1.1.0; point = p.1.1.1.1 }) (λ _. refl)

-- what the readers keep of the families: few of them, all sound, each with few symmetries
pub record AreFamilies (kinematics : Kinematics) (families : List Family) : Type 0 where
  pub few : length families ≤ 16
  pub sound : All (family_file.IsSound kinematics) families
  pub few_symmetries : All (λ family. length family.symmetries ≤ 64) families

-- what the readers keep of the selection: specs that fit the families, and few files, each of a family
pub record IsSelection (families : List Family) (select : Selection) : Type 0 where
  pub specs_fit : All (IsFitting (shapes_of families)) select.specs
  pub few_files : length select.files ≤ 16
  pub files_placed : All (λ file. file.family < length families) select.files

-- what the readers keep: sound kinematics and families, specs and a selection that fit the families, and a
-- value for each parameter
pub record IsSound (outline : Outline) : Type 0 where
  pub kinematics_sound : kinematics_file.IsSound outline.kinematics
  pub families_sound : AreFamilies outline.kinematics outline.families
  pub reduce_fits : All (IsFitting (shapes_of outline.families)) outline.reduce
  pub select_fits : IsSelection outline.families outline.select
  pub settings : length outline.point.settings ≡ parameter_count outline.kinematics
