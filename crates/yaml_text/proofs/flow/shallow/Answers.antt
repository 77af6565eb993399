use Rattle.std.proofs.Common.{rules, arith}
use Rattle.std.proofs.lemmas.Grind.{common_steps}
use Rattle.yaml_text.proofs.FlowSteps.{value_zero, value_zero_wrong}
use Rattle.yaml_text.proofs.flow.shallow.Goals as goal

pub returns-in-Scalar : goal.returns-in-Scalar
returns-in-Scalar c =
    let e = value_zero c.args.line c.args.pieces.now c.take.result c.take.ensures.token in
    first_of (search rules, grind (arith, common_steps))

pub returns-in-OpenList : goal.returns-in-OpenList
returns-in-OpenList c =
    let e = value_zero c.args.line c.args.pieces.now c.take.result c.take.ensures.token in
    first_of (search rules, grind (arith, common_steps))

pub returns-in_default : goal.returns-in_default
returns-in_default c = λ _.
    value_zero_wrong c.args.line c.args.pieces.now c.take.result c.take.ensures.token c.in_default.not-OpenList c.in_default.not-OpenMap c.in_default.not-Scalar
