use Rattle.std.proofs.Common.{◌≡◌, ◌%◌, List, length, sym, ap, ◌∙◌, subst}
use Rattle.matrix_elimination.specs.Vectors.{IsVector}
use Rattle.matrix_elimination.specs.Systems.{IsOnlySolution, HasSystemCause}
use Rattle.kinematics.specs.Points.{product_count}
use Rattle.kinematics.specs.Rules.{IsPointOf, HasPointCause}
use Rattle.kinematics.specs.RuleRows.{FaultGives}
use Rattle.kinematics.proofs.RuleSystems.{rows_of, values_of, IsVector-values, point_from, cause_from, fault_from}
use Rattle.kinematics.proofs.rules.point.Goals as goal

pub solve-requires-clause-values : goal.solve-requires-clause-values
solve-requires-clause-values c =
    let p = c.args.modulus.now in
    let rows = c.deref.ensures.value ∙ c.in_ok-rows.ensures.rows in
    let values = c.deref-2.ensures.value ∙ c.in_ok-values.ensures in
    subst (λ vs. IsVector p (length c.deref.result.now) vs) (sym values) (subst (λ rs. IsVector p (length rs) (values_of c.args.rules.now)) (sym rows) (IsVector-values p c.args.externals c.args.rules.now c.requires.rules))

pub returns-in_err-products-clause-cause : goal.returns-in_err-products-clause-cause
returns-in_err-products-clause-cause c =
    let p = c.args.modulus.now in
    let rules = c.args.rules.now in
    let fault = c.in_err-products.field-0.0 in
    let rows = c.deref.ensures.value ∙ c.in_ok-rows.ensures.rows in
    let values = c.deref-2.ensures.value ∙ c.in_ok-values.ensures in
    let width = subst (λ n. HasSystemCause p n c.deref.result.now c.deref-2.result.now fault) c.product_count-width.ensures c.in_err-products.ensures.cause in
    let row = subst (λ rs. HasSystemCause p (product_count c.args.externals) rs c.deref-2.result.now fault) rows width in
    let cause = subst (λ vs. HasSystemCause p (product_count c.args.externals) (rows_of p rules) vs fault) values row in
    fault_from c.from_residual-in_err-products.result (FaultGives fault) (HasPointCause p c.args.externals rules) c.from_residual-in_err-products.ensures.1 (λ given is. cause_from p c.args.externals rules c.requires.rules fault given is cause)

pub returns-clause-point : goal.returns-clause-point
returns-clause-point c =
    let p = c.args.modulus.now in
    let rules = c.args.rules.now in
    let rows = c.deref.ensures.value ∙ c.in_ok-rows.ensures.rows in
    let values = c.deref-2.ensures.value ∙ c.in_ok-values.ensures in
    let found = c.in_ok-products.ensures.solution in
    let width = subst (λ n. IsOnlySolution p n c.deref.result.now c.deref-2.result.now c.in_ok-products.products) c.product_count-width.ensures found in
    let row = subst (λ rs. IsOnlySolution p (product_count c.args.externals) rs c.deref-2.result.now c.in_ok-products.products) rows width in
    let value = subst (λ vs. IsOnlySolution p (product_count c.args.externals) (rows_of p rules) vs c.in_ok-products.products) values row in
    let same : c.of_products.result.products ≡ c.in_ok-products.products = ap (λ point. point.products) c.of_products.ensures ∙ c.into_vec.ensures in
    subst (λ t. IsPointOf p c.args.externals rules t) (sym same) (point_from p c.args.externals rules c.requires.rules c.in_ok-products.products value)
