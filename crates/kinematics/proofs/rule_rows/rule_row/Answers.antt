use Rattle.std.proofs.Common.{◌≡◌, ℕ, List, map, sym, ap, ◌∙◌, subst}
use Rattle.matrix_elimination.specs.Vectors.{IsVector}
use Rattle.kinematics.specs.Points.{product_count}
use Rattle.kinematics.specs.Rules.{residue_of}
use Rattle.kinematics.specs.RuleRows.{row_of, rule_row_of}
use Rattle.kinematics.proofs.RuleSystems.{IsVector-rule_row}
use Rattle.kinematics.proofs.rule_rows.rule_row.Goals as goal

pub returns-clause-vector : goal.returns-clause-vector
returns-clause-vector c =
    let p = c.args.modulus.now in
    let left = c.deref.ensures.value ∙ c.in_ok-left.ensures.value ∙ ap (map (residue_of p)) c.coefficients.ensures.value in
    let right = c.deref-2.ensures.value ∙ c.in_ok-right.ensures.value ∙ ap (map (residue_of p)) c.coefficients-2.ensures.value in
    let same : c.from_vec.result ≡ rule_row_of p c.args.rule.now =
    c.from_vec.ensures ∙ c.in_ok-row.ensures ∙ ap (λ ls. row_of p ls c.deref-2.result.now) left ∙ ap (λ rs. row_of p (map (residue_of p) c.args.rule.now.left) rs) right in
    subst (λ (row : List ℕ). IsVector p (product_count c.args.externals) row) (sym same) (IsVector-rule_row p c.args.externals c.args.rule.now c.requires)
