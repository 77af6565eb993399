use Rattle.std.proofs.Common.{rules, arith, ◌∙◌, sym, ap, Err}
use Rattle.std.proofs.lemmas.Grind.{common_steps}
use Rattle.yaml_text.proofs.FlowSteps.{value_suc, value_suc_wrong}
use Rattle.yaml_text.proofs.flow.Reader.nested.Goals as goal

pub returns-in_err-list-in-OpenList : goal.returns-in_err-list-in-OpenList
returns-in_err-list-in-OpenList g c =
    let e = value_suc c.args.self.now.line c.args.self.now.depth c.args.pieces.now c.take.result c.take.ensures.token in
    first_of (search rules, grind (arith, common_steps))

pub returns-in_err-map-in-OpenMap : goal.returns-in_err-map-in-OpenMap
returns-in_err-map-in-OpenMap g c =
    let e = value_suc c.args.self.now.line c.args.self.now.depth c.args.pieces.now c.take.result c.take.ensures.token in
    first_of (search rules, grind (arith, common_steps))

pub returns-in-Scalar : goal.returns-in-Scalar
returns-in-Scalar g c =
    let e = value_suc c.args.self.now.line c.args.self.now.depth c.args.pieces.now c.take.result c.take.ensures.token in
    first_of (search rules, grind (arith, common_steps))

pub returns-in_ok-list-in-OpenList : goal.returns-in_ok-list-in-OpenList
returns-in_ok-list-in-OpenList g c =
    let e = value_suc c.args.self.now.line c.args.self.now.depth c.args.pieces.now c.take.result c.take.ensures.token in
    first_of (search rules, grind (arith, common_steps))

pub returns-in_ok-map-in-OpenMap : goal.returns-in_ok-map-in-OpenMap
returns-in_ok-map-in-OpenMap g c =
    let e = value_suc c.args.self.now.line c.args.self.now.depth c.args.pieces.now c.take.result c.take.ensures.token in
    first_of (search rules, grind (arith, common_steps))

pub returns-in_default : goal.returns-in_default
returns-in_default g c = λ _.
    value_suc_wrong c.args.self.now.line c.args.self.now.depth c.args.pieces.now c.take.result c.take.ensures.token c.in_default.not-OpenList c.in_default.not-OpenMap c.in_default.not-Scalar
    ∙ sym (ap Err c.refuse.ensures)
