-- No trees, words and texts of list files say that a file is missing.
use Rattle.std.proofs.Common.{◌≡◌, List, Err, ap, subst}
use Rattle.yaml_text.specs.Lines.{Bytes}
use Rattle.input_schema.specs.declared.faults.InputKind.{InputKind}
use Rattle.input_schema.specs.declared.faults.InputKind.TheVariants.{Missing}
use Rattle.input_schema.specs.Readings.{IsNotMissing}
use Rattle.job_schema.specs.Overridden.{Override}
use Rattle.job_point.specs.declared.faults.PlanError.{PlanError}
use Rattle.job_point.specs.declared.faults.PlanError.TheVariants as plan_error
use Rattle.job_outline.specs.Outlines.{Outline}
use Rattle.job_plan.specs.Plans.{IsPlan}
use Rattle.job_outline.specs.Laws.{OutlinesNeverSayMissing}
use Rattle.job_plan.specs.Laws.{PlansNeverSayMissing}
use Rattle.kira_app.specs.declared.job_files.Trees.{Trees}
use Rattle.kira_app.specs.declared.status.Status.{Status}
use Rattle.kira_app.specs.declared.refusal.Refusal.{Refusal}
use Rattle.kira_app.specs.Steps.{OfPlan}
use Rattle.kira_app.specs.Told.{SaysMissing}
use Rattle.kira_app.specs.Sources.{OutlineOf}
use Rattle.kira_app.specs.Plans.{status_of, refusal_of}

never : (kind : InputKind) → kind ≡ Missing → IsNotMissing kind → ⊥
never kind e h = subst (λ (k : InputKind). IsNotMissing k) e h

pub outline_present : OutlinesNeverSayMissing → (overrides : List Override) (trees : Trees) (e : Refusal) → OutlineOf overrides trees (Err e) → SaysMissing e.status → ⊥
outline_present law overrides trees e h missing =
    never (h.0).kind (subst (λ (s : Status). SaysMissing s) (ap (λ (r : Refusal). r.status) h.2) missing) (law trees.families trees.kinematics trees.jobs overrides h.0 h.1)

error_present : PlansNeverSayMissing → (outline : Outline) (lists : List Bytes) (e : PlanError) → IsPlan outline lists (Err e) → SaysMissing (status_of e) → ⊥
error_present law outline lists (plan_error.Input fault) h missing = never fault.kind missing (law outline lists fault h)
error_present law outline lists (plan_error.Singular cause) h missing = missing
error_present law outline lists (plan_error.RulesClash multipliers residue) h missing = missing
error_present law outline lists (plan_error.Composite fault) h missing = missing
error_present law outline lists (plan_error.TooMany what count) h missing = missing
error_present law outline lists plan_error.OutOfMemory h missing = missing

pub plan_present : PlansNeverSayMissing → (outline : Outline) (lists : List Bytes) (e : Refusal) → OfPlan (refusal_of outline) (IsPlan outline lists) (Err e) → SaysMissing e.status → ⊥
plan_present law outline lists e h missing =
    error_present law outline lists h.0 h.1 (subst (λ (s : Status). SaysMissing s) (ap (λ (r : Refusal). r.status) h.2) missing)
