-- The greatest integral is of the unit, and its coefficient is 1.
use Rattle.std.proofs.Common.{◌≡◌}
use Rattle.integral_index.specs.Order.{unit_of}
use Rattle.sector_forward.specs.Elimination.{IsRuleOf}
use Rattle.reduction_core.proofs.CheckLemmas.{untrue}
use Rattle.reduction_core.proofs.RowTests.{rule_tested, rule_elsewhere, refused}
use Rattle.reduction_core.proofs.acceptance.is_rule.Goals as goal

pub returns-then-is_of_unit : goal.returns-then-is_of_unit
returns-then-is_of_unit c =
    rule_tested c.args.modulus.now c.args.order c.args.unit c.args.row.now c.in-Some.x.now c.coefficient.result (c.is_row.ensures.0 c.if-not-is_row.false) c.in-Some.ensures (c.is_of_unit.ensures.0 c.if-is_of_unit.true) c.coefficient.ensures

pub returns-else-is_of_unit : goal.returns-else-is_of_unit
returns-else-is_of_unit c =
    refused c.is_of_unit.result (IsRuleOf c.args.modulus.now c.args.order c.args.unit c.args.row.now) c.if-is_of_unit.false
    (rule_elsewhere c.args.modulus.now c.args.order c.args.unit c.args.row.now c.in-Some.x.now (c.is_row.ensures.0 c.if-not-is_row.false) c.in-Some.ensures (untrue c.is_of_unit.result (unit_of c.in-Some.x.now ≡ c.args.unit) c.if-is_of_unit.false c.is_of_unit.ensures))
