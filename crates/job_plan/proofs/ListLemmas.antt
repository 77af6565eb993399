-- List files, one after another.
use Rattle.std.proofs.Common.{◌≡◌, ◌<◌, ℕ, List, [], map, length, Some, Result, Ok, Err, sym, ap, ◌∙◌}
use Rattle.std.specs.Prelude.{slice_get, slice_index_or, get_or}
use Rattle.std.specs.declared.vec.Vec.{Vec}
use Rattle.std.proofs.lemmas.List.{get_or-map}
use Rattle.yaml_text.specs.Lines.{Bytes}
use Rattle.integral_index.specs.Integral.{Integral}
use Rattle.input_schema.specs.declared.faults.File.TheVariants as file
use Rattle.input_schema.specs.declared.faults.SchemaError.{SchemaError}
use Rattle.input_schema.specs.declared.faults.SchemaError.TheVariants.{Fault, OutOfMemory}
use Rattle.input_schema.specs.Readings.{Gives}
use Rattle.family_schema.specs.declared.content.Family.{Family}
use Rattle.job_schema.specs.declared.selections.ListFile.{ListFile}
use Rattle.list_schema.specs.Lists.{list_file}
use Rattle.job_point.specs.Steps.{Meets}
use Rattle.job_plan.specs.Faults.{plan_answer}
use Rattle.job_plan.specs.ListFiles.{told, IsListRead}

-- the reading of a list file, where its fault is one of the input
pub list_meets : (families : List Family) (number : ℕ) (listed : ListFile) (text : Bytes) (family : Family) (answer : Result (List Integral) SchemaError) →
    slice_get families listed.family ≡ Some family → Gives (list_file (file.List number) listed.family family.name family.width text) answer → Meets (IsListRead families number listed text) (plan_answer answer)
list_meets families number listed text family (Ok found) there gives = record { family = family; found = there; is = ap told gives }
list_meets families number listed text family (Err (Fault fault)) there gives = record { family = family; found = there; is = ap told gives }
list_meets families number listed text family (Err OutOfMemory) there gives = tt

-- the bytes of the text at a place
pub text_at : {Z : Type 0} (texts : List (Vec ℕ Z)) (place : ℕ) (text : Vec ℕ Z) → place < length texts → text ≡ get_or texts place text → slice_index_or (map (λ t. t.items) texts) place [] ≡ text.items
text_at {Z} texts place text low is = get_or-map (λ (t : Vec ℕ Z). t.items) texts place text [] low ∙ ap (λ (t : Vec ℕ Z). t.items) (sym is)
