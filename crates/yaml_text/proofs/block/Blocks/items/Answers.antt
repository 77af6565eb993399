use Rattle.std.proofs.Common.{◌<◌, refl, length, ◌+◌, sym, ◌∙◌, arith}
use Rattle.std.proofs.lemmas.Result.{err_from_is_err_and}
use Rattle.yaml_text.specs.Blocks.{block}
use Rattle.yaml_text.proofs.BlockSteps.{lines_between, item_refused, item_failed, item_last, item_more}
use Rattle.yaml_text.proofs.block.Blocks.items.Goals as goal

pub returns-then-not-is_item : goal.returns-then-not-is_item
returns-then-not-is_item g c = λ _.
    item_refused (block c.args.self.now.depth) c.args.indent c.loop-line.found c.loop-line.line.now _ c.loop-line.invariant.0 (sym c.is_item.ensures ∙ c.if-not-is_item.true)
    ∙ rw (c.refuse.ensures, c.number.ensures) refl

pub returns-in_err-item : goal.returns-in_err-item
returns-in_err-item g c =
    let p = err_from_is_err_and c.from_residual.result c.from_residual.ensures.1 in
    rw (p.1, p.2) (λ known. item_failed (block c.args.self.now.depth) c.args.indent c.loop-line.found c.loop-line.line.now c.args.rest.now _ c.loop-line.at c.deep.result _ c.loop-line.invariant.0 (sym c.is_item.ensures ∙ c.if-not-is_item.false) c.deep.ensures.value (lines_between c.loop-line.at c.deep.result c.args.rest.now) (c.in_err-item.ensures known))

pub returns-then-end-rest : goal.returns-then-end-rest
returns-then-end-rest g c =
    rw c.in_ok-push.ensures.ok (item_last (block c.args.self.now.depth) c.args.indent c.loop-line.found c.loop-line.line.now c.args.rest.now _ c.loop-line.at c.deep.result c.in_ok-item.item c.loop-line.invariant.0 (sym c.is_item.ensures ∙ c.if-not-is_item.false) c.deep.ensures.value (lines_between c.loop-line.at c.deep.result c.args.rest.now) c.in_ok-item.ensures c.if-end-rest.true)

pub loop-line-preserved : goal.loop-line-preserved
loop-line-preserved g c =
    let within : c.loop-line.at + c.deep.result < length c.args.rest.now = omega arith in
    (rw c.in_ok-push.ensures.ok (item_more (block c.args.self.now.depth) c.args.indent c.loop-line.found c.loop-line.line.now c.index-rest-end.result c.args.rest.now _ c.loop-line.at c.deep.result c.in_ok-item.item c.loop-line.invariant.0 (sym c.is_item.ensures ∙ c.if-not-is_item.false) c.deep.ensures.value (lines_between c.loop-line.at c.deep.result c.args.rest.now) c.in_ok-item.ensures within c.index-rest-end.is), omega arith)
