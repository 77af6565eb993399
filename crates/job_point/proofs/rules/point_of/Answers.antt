use Rattle.std.proofs.Common.{ℕ, ◌<◌, List, subst, sym, arith}
use Rattle.kinematics.specs.declared.rules.Rule.{Rule}
use Rattle.kinematics.specs.declared.rules.PointFault.{PointFault}
use Rattle.kinematics.specs.declared.rules.PointFault.TheVariants as point_fault
use Rattle.kinematics.specs.Rules.{HasPointCause, IsRulesOpen, IsPointOf}
use Rattle.job_point.specs.declared.faults.PlanError.{PlanError}
use Rattle.job_point.specs.Steps.{Refuses}
use Rattle.job_point.specs.Point.{point_error_of, IsPointFor}
use Rattle.job_point.proofs.rules.point_of.Goals as goal

-- the fault of the rules as one of the step
refused : (p externals : ℕ) (rules : List Rule) (fault : PointFault) → HasPointCause p externals rules fault →
    ((vector : List ℕ) → IsRulesOpen p externals rules vector → (products : List ℕ) → IsPointOf p externals rules products → ⊥) → Refuses (IsPointFor p externals rules) (point_error_of fault)
refused p externals rules (point_fault.RulesClash multipliers residue) cause none = cause
refused p externals rules (point_fault.RulesOpen vector) cause none = record { shown = cause; none = none vector cause }
refused p externals rules (point_fault.Composite fault) cause none = cause
refused p externals rules point_fault.OutOfMemory cause none = tt

pub returns-in-Err : goal.returns-in-Err
returns-in-Err c =
    let p = c.args.modulus.now in
    let externals = c.args.externals in
    let rules = c.args.rules.now in
    let big : 1 < p = let least = c.value-p.ensures.modulus.from_3 in omega (arith, least) in
    subst (λ (e : PlanError). Refuses (IsPointFor p externals rules) e) (sym c.point_error.ensures)
    (refused p externals rules c.in-Err.fault c.in-Err.ensures.cause (λ vector shown products is. c.refused_rules_have_no_point.ensures.open p externals rules vector big c.requires.rules shown products is))
