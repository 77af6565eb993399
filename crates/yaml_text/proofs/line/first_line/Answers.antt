use Rattle.std.proofs.Common.{arith, ◌+◌}
use Rattle.std.proofs.lemmas.List.{length-take, length-drop}
use Rattle.yaml_text.proofs.Cutting.{cuts, cuts_last, rest_of}
use Rattle.yaml_text.proofs.line.first_line.Goals as goal

pub returns-then-end-bytes-clause-cut : goal.returns-then-end-bytes-clause-cut
returns-then-end-bytes-clause-cut c =
    cuts_last c.args.bytes.now _ c.line_end-end.result c.requires (omega arith) c.line_end-end.ensures.value (simp (length-take, length-drop) (omega arith))

pub returns-clause-cut : goal.returns-clause-cut
returns-clause-cut c = cuts c.args.bytes.now _ c.line_end-end.result c.before_return.result (omega arith) c.line_end-end.ensures.value c.before_return.ensures.value (rest_of (c.line_end-end.result + 1) c.args.bytes.now)
