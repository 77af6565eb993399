use Rattle.std.proofs.Common.{arith, sym, ◌∙◌}
use Rattle.yaml_text.proofs.Pieces.{plain_length_more, plain_length_done, plain_length_end}
use Rattle.yaml_text.proofs.token.plain_length.Goals as goal

pub loop-at-preserved : goal.loop-at-preserved
loop-at-preserved c =
    let step = plain_length_more c.args.text.now c.loop-at.at c.loop-at-test.true (sym c.stops_plain.ensures ∙ c.if-not-stops_plain.true) in
    (omega (arith, step), omega arith)

pub returns-else-not-stops_plain-clause-value : goal.returns-else-not-stops_plain-clause-value
returns-else-not-stops_plain-clause-value c =
    omega (arith, plain_length_done c.args.text.now c.loop-at.at c.loop-at-test.true (sym c.stops_plain.ensures ∙ c.if-not-stops_plain.false))

pub returns-after-loop-at-clause-value : goal.returns-after-loop-at-clause-value
returns-after-loop-at-clause-value c =
    omega (arith, plain_length_end c.args.text.now c.loop-at.at (omega arith))
