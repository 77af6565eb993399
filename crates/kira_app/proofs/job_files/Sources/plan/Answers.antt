use Rattle.std.proofs.Common.{◌≤◌, ◌<◌, ◌^◌, ℕ, List, length, map, All, sym, subst}
use Rattle.std.proofs.lemmas.List.{get_or-map, length-map}
use Rattle.std.specs.declared.vec.Vec.{Vec}
use Rattle.yaml_text.specs.Lines.{Bytes}
use Rattle.job_plan.specs.Plans.{IsPlan}
use Rattle.kira_app.specs.Steps.{OfPlan, plain}
use Rattle.kira_app.specs.Sources.{OutlineOf}
use Rattle.kira_app.specs.Plans.{refusal_of}
use Rattle.kira_app.proofs.Told.{answers_later, refused_then}
use Rattle.kira_app.proofs.job_files.Sources.plan.Goals as goal

-- what holds of the bytes of all texts
of_texts : {Z : Type 0} (P : Bytes → Type 0) (texts : List (Vec ℕ Z)) → All P (map (λ text. text.items) texts) → All (λ text. P text.items) texts
of_texts P texts h k d inside =
    subst P (get_or-map (λ text. text.items) texts k d d.items inside) (h k d.items (subst (λ n. k < n) (sym (length-map texts (λ text. text.items))) inside))

pub planned-requires-clause-short : goal.planned-requires-clause-short
planned-requires-clause-short c = rw c.deref.ensures.value (of_texts (λ text. length text ≤ 2 ^ 24) c.self.inside.lists.items c.self.invariant.short)

pub returns-in-Ok : goal.returns-in-Ok
returns-in-Ok c =
    let outline = c.in-Ok.outline in
    rw (← c.self.view_is)
    (answers_later (OutlineOf c.args.overrides.now c.self.inside.trees) (λ o. OfPlan (refusal_of o) (IsPlan o (map (λ text. text.items) c.self.inside.lists.items))) outline c.planned.result c.in-Ok.ensures
    (rw c.deref.ensures.value at c.planned.ensures))

pub returns-in-Err : goal.returns-in-Err
returns-in-Err c = rw (← c.self.view_is, c.plain.ensures) (refused_then (OutlineOf c.args.overrides.now c.self.inside.trees) _ (plain c.in-Err.status) c.in-Err.ensures)
