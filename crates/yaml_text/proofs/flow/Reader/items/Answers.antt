use Rattle.std.proofs.Common.{rules, arith, sym, ap, ◌∙◌, Err}
use Rattle.std.proofs.lemmas.Grind.{common_steps}
use Rattle.yaml_text.specs.Flow.{items_from, value}
use Rattle.yaml_text.proofs.Turns.{one_more, no_more}
use Rattle.yaml_text.proofs.FlowSteps.{item_spoilt}
use Rattle.yaml_text.proofs.flow.Reader.items.Goals as goal

pub returns-in_err-value : goal.returns-in_err-value
unfolding items_from
returns-in_err-value g c =
    let e = one_more (λ n. items_from c.args.self.now.line (value c.args.self.now.line c.args.self.now.depth) n c.loop-turn.found c.loop-turn.pieces) _ c.loop-turn._turn c.loop-turn-test.true c.loop-turn.invariant in
    first_of (search rules, grind (arith, common_steps))

pub returns-in-CloseList : goal.returns-in-CloseList
unfolding items_from
returns-in-CloseList g c =
    let e = one_more (λ n. items_from c.args.self.now.line (value c.args.self.now.line c.args.self.now.depth) n c.loop-turn.found c.loop-turn.pieces) _ c.loop-turn._turn c.loop-turn-test.true c.loop-turn.invariant in
    first_of (search rules, grind (arith, common_steps))

pub returns-in_default : goal.returns-in_default
returns-in_default g c = λ _.
    let e = one_more (λ n. items_from c.args.self.now.line (value c.args.self.now.line c.args.self.now.depth) n c.loop-turn.found c.loop-turn.pieces) _ c.loop-turn._turn c.loop-turn-test.true c.loop-turn.invariant in
    item_spoilt c.args.self.now.line (value c.args.self.now.line c.args.self.now.depth) _ c.loop-turn.found c.loop-turn.pieces c.value.new.pieces c.in_ok-value.field-0 c.take.result
    e c.in_ok-value.ensures c.take.ensures.token c.in_default.not-Comma c.in_default.not-CloseList ∙ sym (ap Err c.refuse.ensures)

pub loop-turn-preserved : goal.loop-turn-preserved
unfolding items_from
loop-turn-preserved g c =
    let e = one_more (λ n. items_from c.args.self.now.line (value c.args.self.now.line c.args.self.now.depth) n c.loop-turn.found c.loop-turn.pieces) _ c.loop-turn._turn c.loop-turn-test.true c.loop-turn.invariant in
    first_of (search rules, grind (arith, common_steps))

pub returns : goal.returns
unfolding items_from
returns g c =
    let e = no_more (λ n. items_from c.args.self.now.line (value c.args.self.now.line c.args.self.now.depth) n c.loop-turn.found c.loop-turn.pieces) _ c.loop-turn._turn c.loop-turn-test.false c.loop-turn.invariant in
    first_of (search rules, grind (arith, common_steps))
