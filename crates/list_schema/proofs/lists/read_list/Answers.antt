-- The lines in order: one without bytes is left out, one with an integral adds it, one at fault ends them.
use Rattle.std.proofs.Common.{◌+◌, arith}
use Rattle.input_schema.specs.declared.faults.File.TheVariants.{List as ListNumber}
use Rattle.input_schema.specs.Readings.{Is}
use Rattle.list_schema.specs.Lists.{on_line, list_file}
use Rattle.list_schema.proofs.LineSteps.{refused, is_zero, is_more, list_begins, line_left_out, line_read, line_refused, lines_end}
use Rattle.list_schema.proofs.lists.read_list.Goals as goal

pub loop-rest-init : goal.loop-rest-init
loop-rest-init c = (rw c.new-found.ensures (list_begins (ListNumber c.args.number) c.args.family c.args.name.now c.args.width c.args.text.now), omega arith)

pub returns-in_err-integral : goal.returns-in_err-integral
returns-in_err-integral c =
    refused (Is (list_file (ListNumber c.args.number) c.args.family c.args.name.now c.args.width c.args.text.now)) _ _ c.from_residual.ensures.1
    (line_refused (on_line (ListNumber c.args.number) c.args.family c.args.name.now c.args.width) (c.loop-rest.line + 1) c.loop-rest.found c.loop-rest.rest.now _ _
    c.bare-kept.result.now c.skip.result.now _
    c.first_line.ensures.cut c.bare-kept.ensures.value c.skip.ensures.value (is_more _ c.if-not-is_empty.ensures) c.loop-rest.invariant.0 c.in_err-integral.ensures)

pub loop-rest-preserved-in_ok-push : goal.loop-rest-preserved-in_ok-push
loop-rest-preserved-in_ok-push c = (
  line_read (on_line (ListNumber c.args.number) c.args.family c.args.name.now c.args.width) (c.loop-rest.line + 1) c.loop-rest.found _ c.loop-rest.rest.now _ _
      c.bare-kept.result.now c.skip.result.now c.in_ok-integral.field-0
      c.first_line.ensures.cut c.bare-kept.ensures.value c.skip.ensures.value (is_more _ c.if-not-is_empty.ensures) c.loop-rest.invariant.0 c.in_ok-integral.ensures c.in_ok-push.ensures.ok,
  omega arith,
)

pub loop-rest-preserved : goal.loop-rest-preserved
loop-rest-preserved c = (
  line_left_out (on_line (ListNumber c.args.number) c.args.family c.args.name.now c.args.width) (c.loop-rest.line + 1) c.loop-rest.found c.loop-rest.rest.now _ _
      c.bare-kept.result.now
      c.first_line.ensures.cut c.bare-kept.ensures.value (is_zero _ c.if-not-is_empty.ensures) c.loop-rest.invariant.0,
  omega arith,
)

pub returns : goal.returns
returns c =
    lines_end (on_line (ListNumber c.args.number) c.args.family c.args.name.now c.args.width) (c.loop-rest.line + 1) c.loop-rest.found c.loop-rest.rest.now (is_zero _ c.loop-rest-test.ensures) c.loop-rest.invariant.0
