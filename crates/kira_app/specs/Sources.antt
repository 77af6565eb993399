-- What the files of a job hold, as `Sources` is seen: the trees of its three files, and the texts of its list files.
-- The project's own.
use Rattle.std.specs.Prelude.{◌≡◌, ℕ, ◌^◌, ◌≤◌, if◌then◌else◌, nat_lt, List, [], codes, length, All, Option, Some, None, Ok, Err, refl}
use Rattle.std.specs.Coded.{Coded, code_by, coded×, coded_ℕ, coded_list}
use Rattle.std.specs.FinMap as map
use Rattle.yaml_text.specs.declared.tree.Tree.{Tree}
use Rattle.yaml_text.specs.declared.fault.YamlError.TheVariants as yaml_error
use Rattle.yaml_text.specs.Outcomes as yaml
use Rattle.yaml_text.specs.Blocks.{reading}
use Rattle.yaml_text.specs.Lines.{Bytes}
use Rattle.input_schema.specs.declared.faults.File.{File}
use Rattle.input_schema.specs.declared.faults.File.TheVariants as file
use Rattle.input_schema.specs.declared.faults.InputKind.{InputKind}
use Rattle.input_schema.specs.declared.faults.InputKind.TheVariants.{Missing, TooLong, Yaml}
use Rattle.input_schema.specs.Readings as input
use Rattle.kira_outside.specs.Held.{Held}
use Rattle.job_schema.specs.declared.selections.ListFile.{ListFile}
use Rattle.job_schema.specs.Overridden.{Override}
use Rattle.job_outline.specs.Outlines.{Outline}
use Rattle.job_outline.specs.Readings.{ReadsOutline}
use Rattle.kira_app.specs.declared.job_files.Trees.{Trees}
use Rattle.kira_app.specs.contracts.job_files.Trees as trees_contracts
use Rattle.kira_app.specs.declared.refusal.Refusal.{Refusal}
use Rattle.kira_app.specs.declared.status.Status.TheVariants as status
use Rattle.job_point.specs.Steps.{Is, Then, Each}
use Rattle.kira_app.specs.Steps.{Answer, Step, OfReading}

-- ---- one file

-- The tree of a text, or the fault that the profile finds. The profile itself never says that memory was refused, so
-- what stands for it here never comes.
abbrev pub tree_from : File → yaml.Outcome Tree → input.Outcome Tree
tree_from file (Ok tree) = Ok tree
tree_from file (Err (yaml_error.Fault fault)) = input.refuse file fault.line (Yaml fault.kind)
tree_from file (Err yaml_error.OutOfMemory) = input.refuse file 0 TooLong

-- a file has at most 2^24 bytes
abbrev pub tree_in : File → Bytes → input.Outcome Tree
tree_in file bytes = if nat_lt (2 ^ 24) (length bytes) then input.refuse file 0 TooLong else tree_from file (reading bytes)

abbrev pub tree_of_entry : File → Option Bytes → input.Outcome Tree
tree_of_entry file None = input.refuse file 0 Missing
tree_of_entry file (Some bytes) = tree_in file bytes

-- the file of this name as a tree
abbrev pub tree_of : File → Bytes → Held → input.Outcome Tree
tree_of file name held = tree_of_entry file (map.get held name)

-- that the list file with this number and name can't be taken, and why
abbrev pub no_list : ℕ → Bytes → InputKind → Refusal
no_list number name kind = record { status = status.Input (record { file = file.List number; line = 0; kind = kind }); name = name }

abbrev pub list_of_entry : ℕ → Bytes → Option Bytes → Answer Bytes
list_of_entry number name None = Err (no_list number name Missing)
list_of_entry number name (Some bytes) = if nat_lt (2 ^ 24) (length bytes) then Err (no_list number name TooLong) else Ok bytes

-- the bytes of the list file with this number and name
abbrev pub list_of : ℕ → Bytes → Held → Answer Bytes
list_of number name held = list_of_entry number name (map.get held name)

-- ---- the files in the order in which they are loaded

abbrev pub TreeOf : File → Bytes → Held → Step Tree
TreeOf file name held = OfReading (input.Is (tree_of file name held))

-- the last of the three files, beside the first two
abbrev pub KinematicsOf : Tree → Tree → Held → Step Trees
KinematicsOf jobs families held =
    Then (TreeOf file.Kinematics (codes "config/kinematics.yaml") held) (λ kinematics.
    Is (Ok (record { jobs = jobs; families = families; kinematics = kinematics })))

abbrev pub FamiliesOf : Tree → Held → Step Trees
FamiliesOf jobs held = Then (TreeOf file.Families (codes "config/integralfamilies.yaml") held) (λ families. KinematicsOf jobs families held)

-- the job file, then that of the families, then that of the kinematics
abbrev pub TreesOf : Bytes → Held → Step Trees
TreesOf name held = Then (TreeOf file.Jobs name held) (λ jobs. FamiliesOf jobs held)

-- the list files in the order of the job, numbered from 0
abbrev pub ListsOf : List ListFile → Held → Step (List Bytes)
ListsOf files held = Each (λ found list. Is (list_of (length found) list.name held)) [] files

-- ---- all of them

pub record Sources : Type 0 where
  pub trees : Trees
  pub lists : List Bytes

-- sources are stored as their fields
abbrev pub sources_code : Coded Sources
sources_code =
    code_by (Trees × List Bytes) (coded× (trees_contracts.the_row).coded (coded_list (coded_list coded_ℕ)))
    (λ s. (s.trees, s.lists)) (λ p. record { trees = p.0; lists = p.1 }) (λ _. refl)

-- the outline of the trees and of the words that override their values
abbrev pub OutlineOf : List Override → Trees → Step Outline
OutlineOf overrides trees = OfReading (ReadsOutline trees.families trees.kinematics trees.jobs overrides)

-- whatever the words are, there is a text for each list file, and none is too long
pub record AreWhole (sources : Sources) : Type 0 where
  pub short : All (λ text. length text ≤ 2 ^ 24) sources.lists
  pub count : (overrides : List Override) (outline : Outline) → OutlineOf overrides sources.trees (Ok outline) → length sources.lists ≡ length outline.select.files

-- the list files of an outline, beside the trees
abbrev pub SourcesWith : Trees → Outline → Held → Step Sources
SourcesWith trees outline held = Then (ListsOf outline.select.files held) (λ lists. Is (Ok (record { trees = trees; lists = lists })))

-- The trees of the job with this name, which have an outline with these words.
abbrev pub Outlines : List Override → Bytes → Held → Step (Trees × Outline)
Outlines overrides name held =
    Then (TreesOf name held) (λ trees.
    Then (OutlineOf overrides trees) (λ outline.
    Is (Ok (trees, outline))))

-- The files of the job with this name: its trees, and then its list files.
abbrev pub ReadsSources : List Override → Bytes → Held → Step Sources
ReadsSources overrides name held = Then (Outlines overrides name held) (λ both. SourcesWith both.0 both.1 held)
