use Rattle.std.proofs.Common.{rules, arith}
use Rattle.std.proofs.lemmas.Grind.{common_steps}
use Rattle.std.proofs.lemmas.Str.{IsAscii-take}
use Rattle.yaml_text.proofs.Cutting.{trim_end_less, trim_end_stops, trim_end_nil}
use Rattle.yaml_text.proofs.line.trim_end.Goals as goal

pub loop-end-preserved : goal.loop-end-preserved
loop-end-preserved c = first_of (search (rules, trim_end_less), grind (arith, common_steps, trim_end_less))

pub returns-clause-value : goal.returns-clause-value
returns-clause-value c = first_of (search (rules, trim_end_stops, trim_end_nil), grind (arith, common_steps, trim_end_stops, trim_end_nil))

pub returns-clause-ascii : goal.returns-clause-ascii
returns-clause-ascii c = IsAscii-take c.args.text.now c.loop-end.end
