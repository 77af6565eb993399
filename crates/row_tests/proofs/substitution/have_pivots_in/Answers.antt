-- One row more has its pivot in the unit.
use Rattle.std.proofs.Common.{All, subst, refl}
use Rattle.std.proofs.lemmas.List.{take_all}
use Rattle.std.proofs.lemmas.List.Elements.{All-more}
use Rattle.integral_index.specs.declared.Order.TheVariants.{Standard}
use Rattle.sector_forward.specs.Elimination.{IsRuleOf}
use Rattle.row_tests.proofs.substitution.have_pivots_in.Goals as goal

pub loop-row-preserved : goal.loop-row-preserved
loop-row-preserved c =
    let rule = c.if-not-has_pivot_in.ensures refl in
    All-more (IsRuleOf c.args.modulus.now Standard c.args.unit) c.args.rows.now c.loop-row.row-index c.row-item.result c.loop-row-test.true c.loop-row.invariant
    (subst (IsRuleOf c.args.modulus.now Standard c.args.unit) c.row-item.is rule)

pub returns : goal.returns
returns c =
    λ _. subst (λ rows. All (IsRuleOf c.args.modulus.now Standard c.args.unit) rows) (take_all c.loop-row.row-index c.args.rows.now c.loop-row-test.false) c.loop-row.invariant
