-- How the list files of a job are read, one after another. The project's own.
use Rattle.std.specs.Prelude.{◌≡◌, ℕ, List, [], length, slice_get, slice_index_or, Some, Ok, Err}
use Rattle.yaml_text.specs.Lines.{Bytes}
use Rattle.integral_index.specs.Integral.{Integral}
use Rattle.input_schema.specs.declared.faults.File.TheVariants as file
use Rattle.input_schema.specs.Readings.{Outcome}
use Rattle.family_schema.specs.declared.content.Family.{Family}
use Rattle.job_schema.specs.declared.selections.ListFile.{ListFile}
use Rattle.list_schema.specs.Lists.{list_file}
use Rattle.job_point.specs.declared.faults.PlanError.TheVariants.{Input}
use Rattle.job_point.specs.Steps.{Answer, Step, Each}

-- the outcome of a file, where its fault is one of the input
abbrev pub told : {A : Type 0} → Outcome A → Answer A
told (Ok a) = Ok a
told (Err fault) = Err (Input fault)

-- The list file with this number, counted from 0, with this text: the integrals of its family that its lines
-- name, or the fault of the first line that has one.
pub record IsListRead (families : List Family) (number : ℕ) (listed : ListFile) (text : Bytes) (r : Answer (List Integral)) : Type 0 where
  pub family : Family
  pub found : slice_get families listed.family ≡ Some family
  pub is : told (list_file (file.List number) listed.family family.name family.width text) ≡ r

-- the files in order, numbered from 0, each with the text at its place
abbrev pub AreListsRead : List Family → List ListFile → List Bytes → Step (List (List Integral))
AreListsRead families files texts =
    Each (λ found listed. IsListRead families (length found) listed (slice_index_or texts (length found) [])) [] files
