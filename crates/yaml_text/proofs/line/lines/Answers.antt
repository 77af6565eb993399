use Rattle.std.proofs.Common.{rules, arith, ◌+◌}
use Rattle.std.proofs.lemmas.Result.{err_from_is_err_and}
use Rattle.yaml_text.proofs.LineSteps.{line_judged, line_refused, lines_begin, lines_end}
use Rattle.yaml_text.proofs.line.lines.Goals as goal

pub loop-rest-init : goal.loop-rest-init
loop-rest-init c = search (rules, lines_begin)

pub returns-in_err-judge : goal.returns-in_err-judge
returns-in_err-judge c =
    let p = err_from_is_err_and c.from_residual.result c.from_residual.ensures.1 in
    rw (p.1, p.2) (λ known. line_refused (c.loop-rest.number + 1) c.loop-rest.found c.loop-rest.rest.now c.first_line.result.0.now c.first_line.result.1.now _
    c.first_line.ensures.cut c.loop-rest.invariant.0 (rw (← c.bare.ensures.value) (c.in_err-judge.ensures known)))

pub loop-rest-preserved : goal.loop-rest-preserved
loop-rest-preserved c =
    let fine = c.in_ok-judge.ensures in (
      line_judged (c.loop-rest.number + 1) c.loop-rest.found c.judge.new.found c.loop-rest.rest.now c.first_line.result.0.now c.first_line.result.1.now
          c.first_line.ensures.cut c.loop-rest.invariant.0 (rw (← c.bare.ensures.value) fine),
      omega arith,
    )

pub returns : goal.returns
returns c = search (rules, lines_end)
