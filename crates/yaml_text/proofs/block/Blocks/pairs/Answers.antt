use Rattle.std.proofs.Common.{◌≡◌, ◌<◌, ◌-◌, take, drop, refl, length, ◌+◌, sym, ap, ◌∙◌, arith, eqb, true, false}
use Rattle.std.proofs.lemmas.Bool.Decides.{nat_tests}
use Rattle.std.proofs.lemmas.Result.{err_from_is_err_and}
use Rattle.yaml_text.specs.declared.fault.YamlKind.TheVariants.{NoColon}
use Rattle.yaml_text.specs.Tokens.{token, behind}
use Rattle.yaml_text.specs.Flow.{key, as_pair}
use Rattle.yaml_text.specs.Blocks.{block, value}
use Rattle.yaml_text.proofs.BlockSteps.{lines_between, pair_refused, pair_unnamed, pair_failed, pair_ends, pair_goes}
use Rattle.yaml_text.proofs.block.Blocks.pairs.Goals as goal

pub returns-then-indent : goal.returns-then-indent
returns-then-indent g c = λ _.
    let other : eqb c.loop-line.line.now.indent c.args.indent ≡ false = grind (arith, nat_tests) in
    pair_refused (block c.args.self.now.depth) c.args.self.now.depth c.args.indent c.loop-line.keys c.loop-line.found c.loop-line.line.now _ c.loop-line.invariant.0 other ∙ rw (c.refuse.ensures, c.number-number.ensures) refl

pub returns-in_err-words : goal.returns-in_err-words
returns-in_err-words g c =
    let p = err_from_is_err_and c.from_residual.result c.from_residual.ensures.1 in
    let same : eqb c.loop-line.line.now.indent c.args.indent ≡ true = grind (arith, nat_tests) in
    let start = c.new-pieces.ensures ∙ c.text.ensures.text in
    let number = c.number-number.ensures in
    let piece = c.take.ensures.token ∙ ap token start in
    rw (p.1, p.2) (λ known. pair_unnamed (block c.args.self.now.depth) c.args.self.now.depth c.args.indent c.loop-line.keys c.loop-line.found c.loop-line.line.now _ _ c.loop-line.invariant.0 same
    (ap (λ n. key n NoColon c.loop-line.keys (token c.loop-line.line.now.text)) (sym number) ∙ ap (λ t. key c.number-number.result NoColon c.loop-line.keys t) (sym piece) ∙ c.in_err-words.ensures.value known))

pub returns-in_err-value : goal.returns-in_err-value
returns-in_err-value g c =
    let p = err_from_is_err_and c.from_residual-in_err-value.result c.from_residual-in_err-value.ensures.1 in
    let same : eqb c.loop-line.line.now.indent c.args.indent ≡ true = grind (arith, nat_tests) in
    let start = c.new-pieces.ensures ∙ c.text.ensures.text in
    let number = c.number-number.ensures in
    let piece = c.take.ensures.token ∙ ap token start in
    let taken = take (c.loop-line.at + c.value_lines.result - c.loop-line.at) (drop c.loop-line.at c.args.rest.now) in
    let here = c.rest-text.ensures.rest ∙ c.take.ensures.behind ∙ ap behind start in
    rw (p.1, p.2) (λ known. pair_failed (block c.args.self.now.depth) c.args.self.now.depth c.args.indent c.loop-line.keys c.loop-line.found c.loop-line.line.now c.rest-text.result.now c.args.rest.now taken c.loop-line.at c.value_lines.result c.in_ok-words.words _
    c.loop-line.invariant.0 same here c.value_lines.ensures.value (lines_between c.loop-line.at c.value_lines.result c.args.rest.now)
    (ap (λ n. key n NoColon c.loop-line.keys (token c.loop-line.line.now.text)) (sym number) ∙ ap (λ t. key c.number-number.result NoColon c.loop-line.keys t) (sym piece) ∙ c.in_ok-words.ensures.value) (ap (λ n. value (block c.args.self.now.depth) c.args.self.now.depth n c.rest-text.result.now taken) (sym number) ∙ c.in_err-value.ensures known))

pub returns-then-end-rest : goal.returns-then-end-rest
returns-then-end-rest g c =
    let same : eqb c.loop-line.line.now.indent c.args.indent ≡ true = grind (arith, nat_tests) in
    let start = c.new-pieces.ensures ∙ c.text.ensures.text in
    let number = c.number-number.ensures in
    let piece = c.take.ensures.token ∙ ap token start in
    let taken = take (c.loop-line.at + c.value_lines.result - c.loop-line.at) (drop c.loop-line.at c.args.rest.now) in
    let here = c.rest-text.ensures.rest ∙ c.take.ensures.behind ∙ ap behind start in
    rw c.in_ok-push.ensures.ok (pair_ends (block c.args.self.now.depth) c.args.self.now.depth c.args.indent c.loop-line.keys c.key.new.keys c.loop-line.found c.loop-line.line.now c.rest-text.result.now c.args.rest.now taken c.loop-line.at c.value_lines.result c.in_ok-words.words c.in_ok-value.value c.in_ok-pair.pair
    c.loop-line.invariant.0 same here c.value_lines.ensures.value (lines_between c.loop-line.at c.value_lines.result c.args.rest.now)
    (ap (λ n. key n NoColon c.loop-line.keys (token c.loop-line.line.now.text)) (sym number) ∙ ap (λ t. key c.number-number.result NoColon c.loop-line.keys t) (sym piece) ∙ c.in_ok-words.ensures.value) (ap (λ n. value (block c.args.self.now.depth) c.args.self.now.depth n c.rest-text.result.now taken) (sym number) ∙ c.in_ok-value.ensures)
    c.in_ok-words.ensures.keys (ap (λ n. as_pair n c.in_ok-words.words.text c.in_ok-value.value) (sym number) ∙ c.in_ok-pair.ensures) c.if-end-rest.true)

pub loop-line-preserved : goal.loop-line-preserved
loop-line-preserved g c =
    let same : eqb c.loop-line.line.now.indent c.args.indent ≡ true = grind (arith, nat_tests) in
    let start = c.new-pieces.ensures ∙ c.text.ensures.text in
    let number = c.number-number.ensures in
    let piece = c.take.ensures.token ∙ ap token start in
    let taken = take (c.loop-line.at + c.value_lines.result - c.loop-line.at) (drop c.loop-line.at c.args.rest.now) in
    let here = c.rest-text.ensures.rest ∙ c.take.ensures.behind ∙ ap behind start in
    let within : c.loop-line.at + c.value_lines.result < length c.args.rest.now = omega arith in (
      rw c.in_ok-push.ensures.ok (pair_goes (block c.args.self.now.depth) c.args.self.now.depth c.args.indent c.loop-line.keys c.key.new.keys c.loop-line.found c.loop-line.line.now c.index-rest-end.result c.rest-text.result.now c.args.rest.now taken c.loop-line.at c.value_lines.result c.in_ok-words.words c.in_ok-value.value c.in_ok-pair.pair
          c.loop-line.invariant.0 same here c.value_lines.ensures.value (lines_between c.loop-line.at c.value_lines.result c.args.rest.now)
          (ap (λ n. key n NoColon c.loop-line.keys (token c.loop-line.line.now.text)) (sym number) ∙ ap (λ t. key c.number-number.result NoColon c.loop-line.keys t) (sym piece) ∙ c.in_ok-words.ensures.value) (ap (λ n. value (block c.args.self.now.depth) c.args.self.now.depth n c.rest-text.result.now taken) (sym number) ∙ c.in_ok-value.ensures)
          c.in_ok-words.ensures.keys (ap (λ n. as_pair n c.in_ok-words.words.text c.in_ok-value.value) (sym number) ∙ c.in_ok-pair.ensures) within c.index-rest-end.is),
      omega arith,
    )
