use Rattle.std.proofs.Common.{rules, arith, sym, ap, ◌∙◌, Err}
use Rattle.std.proofs.lemmas.Grind.{common_steps}
use Rattle.yaml_text.specs.Flow.{pairs_from, value}
use Rattle.yaml_text.proofs.Turns.{one_more, no_more}
use Rattle.yaml_text.proofs.FlowSteps.{pair_spoilt, pair_more, pair_last}
use Rattle.yaml_text.proofs.flow.Reader.pairs.Goals as goal

pub returns-in_err-words : goal.returns-in_err-words
unfolding pairs_from
returns-in_err-words g c =
    let e = one_more (λ n. pairs_from c.args.self.now.line (value c.args.self.now.line c.args.self.now.depth) n c.loop-turn.keys c.loop-turn.found c.loop-turn.pieces) _ c.loop-turn._turn c.loop-turn-test.true c.loop-turn.invariant in
    first_of (search rules, grind (arith, common_steps))

pub returns-in_err-value : goal.returns-in_err-value
unfolding pairs_from
returns-in_err-value g c =
    let e = one_more (λ n. pairs_from c.args.self.now.line (value c.args.self.now.line c.args.self.now.depth) n c.loop-turn.keys c.loop-turn.found c.loop-turn.pieces) _ c.loop-turn._turn c.loop-turn-test.true c.loop-turn.invariant in
    first_of (search rules, grind (arith, common_steps))

pub returns-in-CloseMap : goal.returns-in-CloseMap
returns-in-CloseMap g c =
    let e = one_more (λ n. pairs_from c.args.self.now.line (value c.args.self.now.line c.args.self.now.depth) n c.loop-turn.keys c.loop-turn.found c.loop-turn.pieces) _ c.loop-turn._turn c.loop-turn-test.true c.loop-turn.invariant in
    rw (c.in_ok-push.ensures.ok, c.take-in-loop-turn.ensures.behind)
    (pair_last c.args.self.now.line (value c.args.self.now.line c.args.self.now.depth) _ c.loop-turn.keys c.loop-turn.found c.loop-turn.pieces c.take.new.self c.value.new.pieces c.in_ok-words.words c.in_ok-value.value c.in_ok-pair.field-0 c.take-in-loop-turn.result
    e (rw (← c.take.ensures.token) c.in_ok-words.ensures.value) c.take.ensures.behind c.in_ok-value.ensures c.take-in-loop-turn.ensures.token c.in-CloseMap.is c.in_ok-pair.ensures)

pub returns-in_default : goal.returns-in_default
returns-in_default g c = λ _.
    let e = one_more (λ n. pairs_from c.args.self.now.line (value c.args.self.now.line c.args.self.now.depth) n c.loop-turn.keys c.loop-turn.found c.loop-turn.pieces) _ c.loop-turn._turn c.loop-turn-test.true c.loop-turn.invariant in
    pair_spoilt c.args.self.now.line (value c.args.self.now.line c.args.self.now.depth) _ c.loop-turn.keys c.loop-turn.found c.loop-turn.pieces c.take.new.self c.value.new.pieces c.in_ok-words.words c.in_ok-value.value c.take-in-loop-turn.result
    e (rw (← c.take.ensures.token) c.in_ok-words.ensures.value) c.take.ensures.behind c.in_ok-value.ensures c.take-in-loop-turn.ensures.token c.in_default.not-Comma c.in_default.not-CloseMap ∙ sym (ap Err c.refuse.ensures)

pub loop-turn-preserved : goal.loop-turn-preserved
loop-turn-preserved g c =
    let e = one_more (λ n. pairs_from c.args.self.now.line (value c.args.self.now.line c.args.self.now.depth) n c.loop-turn.keys c.loop-turn.found c.loop-turn.pieces) _ c.loop-turn._turn c.loop-turn-test.true c.loop-turn.invariant in
    rw (c.in_ok-push.ensures.ok, c.take-in-loop-turn.ensures.behind)
    (pair_more c.args.self.now.line (value c.args.self.now.line c.args.self.now.depth) _ c.loop-turn.keys c.key.new.keys c.loop-turn.found c.loop-turn.pieces c.take.new.self c.value.new.pieces c.in_ok-words.words c.in_ok-value.value c.in_ok-pair.field-0 c.take-in-loop-turn.result
    e (rw (← c.take.ensures.token) c.in_ok-words.ensures.value) c.take.ensures.behind c.in_ok-value.ensures c.take-in-loop-turn.ensures.token c.in-Comma.is c.in_ok-words.ensures.keys c.in_ok-pair.ensures)

pub returns : goal.returns
unfolding pairs_from
returns g c =
    let e = no_more (λ n. pairs_from c.args.self.now.line (value c.args.self.now.line c.args.self.now.depth) n c.loop-turn.keys c.loop-turn.found c.loop-turn.pieces) _ c.loop-turn._turn c.loop-turn-test.false c.loop-turn.invariant in
    first_of (search rules, grind (arith, common_steps))
