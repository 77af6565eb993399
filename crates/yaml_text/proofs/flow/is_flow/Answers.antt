use Rattle.std.proofs.Common.{arith, sym, ◌∙◌, ap, Ok, ◌-◌, ◌+◌, ◌++◌, ◌∷◌, [], length}
use Rattle.yaml_text.specs.declared.flow.Goal.TheVariants.{Value}
use Rattle.std.proofs.lemmas.Bool.{true≢false}
use Rattle.yaml_text.proofs.FlowSteps.{flow_begins, flow_done, flow_wrong, flow_more, flow_stops}
use Rattle.yaml_text.proofs.flow.is_flow.Goals as goal

pub loop-turn-init : goal.loop-turn-init
loop-turn-init c =
    flow_begins c.args.text.now c.push.new.self _ _ (c.in_ok-push.ensures.ok ∙ ap (λ gs. gs ++ Value ∷ []) c.new-goals.ensures) c.new-pieces.ensures (omega arith)

pub returns-in_default : goal.returns-in_default
returns-in_default c =
    ap Ok (flow_done (length c.args.text.now - c.loop-turn._turn) c.loop-turn.goals c.loop-turn.pieces c.in_default.ensures.0 c.loop-turn.invariant ∙ sym c.is_empty.ensures)

pub returns-then-not-branch : goal.returns-then-not-branch
returns-then-not-branch c =
    ap Ok (flow_wrong (length c.args.text.now - c.loop-turn._turn) (length c.args.text.now - (c.loop-turn._turn + 1)) c.loop-turn.goals c.pop.new.self c.meet.new.goals c.in-Some.goal c.loop-turn.pieces c.in_ok-meet.field-0
    (omega arith) c.in-Some.ensures c.loop-turn.invariant (rw (← c.take-token.ensures.token) c.in_ok-meet.ensures) c.if-not-branch.true)

pub loop-turn-preserved : goal.loop-turn-preserved
loop-turn-preserved c =
    rw c.take-token.ensures.behind (flow_more (length c.args.text.now - c.loop-turn._turn) (length c.args.text.now - (c.loop-turn._turn + 1)) c.loop-turn.goals c.pop.new.self c.meet.new.goals c.in-Some.goal c.loop-turn.pieces c.in_ok-meet.field-0
    (omega arith) c.in-Some.ensures c.loop-turn.invariant (rw (← c.take-token.ensures.token) c.in_ok-meet.ensures) c.if-not-branch.false)

pub returns-then-is_empty : goal.returns-then-is_empty
returns-then-is_empty c =
    ap Ok (flow_done (length c.args.text.now - c.loop-turn._turn) c.loop-turn.goals c.loop-turn.pieces (c.is_empty-2.ensures.0 c.if-is_empty.true) c.loop-turn.invariant ∙ sym c.is_empty-then-is_empty.ensures)

pub returns : goal.returns
returns c =
    ap Ok (flow_stops (length c.args.text.now - c.loop-turn._turn) c.loop-turn.goals c.loop-turn.pieces (omega arith)
    (λ e. true≢false (sym (c.is_empty-2.ensures.1 e) ∙ c.if-is_empty.false)) c.loop-turn.invariant)
