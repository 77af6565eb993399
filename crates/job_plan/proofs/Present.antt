-- No plan of a job says that a file is missing.
use Rattle.std.proofs.Common.{ℕ, List, [], Ok, Err, refl, subst}
use Rattle.yaml_text.specs.Lines.{Bytes}
use Rattle.integral_index.specs.Integral.{Integral}
use Rattle.input_schema.specs.Readings.{Outcome}
use Rattle.input_schema.specs.Readings as reading
use Rattle.family_schema.specs.declared.content.Family.{Family}
use Rattle.job_schema.specs.declared.selections.ListFile.{ListFile}
use Rattle.list_schema.specs.Lists.{list_file}
use Rattle.list_schema.specs.Laws.{ListsNeverSayMissing}
use Rattle.job_point.specs.Steps.{Answer, NeverSaysMissing}
use Rattle.job_point.specs.Laws as point
use Rattle.job_point.proofs.Present.{IsPresent, is_present, then_present, each_present}
use Rattle.job_plan.specs.ListFiles.{told, IsListRead}
use Rattle.job_plan.specs.Laws.{PlansNeverSayMissing}

told_present : {A : Type 0} (outcome : Outcome A) → reading.NeverSaysMissing (reading.Is outcome) → IsPresent (told outcome)
told_present (Ok a) h = tt
told_present (Err fault) h = h fault refl

list_present : ListsNeverSayMissing → (families : List Family) (number : ℕ) (listed : ListFile) (text : Bytes) → NeverSaysMissing (IsListRead families number listed text)
list_present of_lists families number listed text fault h =
    subst (λ (r : Answer (List Integral)). IsPresent r) h.is (told_present (list_file _ listed.family h.family.name h.family.width text) (of_lists _ listed.family h.family.name h.family.width text))

pub plans_present : ListsNeverSayMissing → point.PointsNeverSayMissing → PlansNeverSayMissing
plans_present of_lists of_points outline texts =
    then_present _ _
    (then_present _ _ (each_present _ (λ found listed. list_present of_lists _ _ listed _) [] outline.select.files) (λ lists.
    then_present _ _ (λ fault h. absurd h) (λ seeds.
    then_present _ _ (λ fault h. absurd h) (λ selection.
    then_present _ _ (λ fault h. absurd h) (λ few. is_present _ tt)))))
    (λ integrals. then_present _ _ (of_points outline.point.prime outline.kinematics outline.families outline.point.settings) (λ at fault h. absurd h))
