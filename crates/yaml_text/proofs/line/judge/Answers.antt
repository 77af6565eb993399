use Rattle.std.proofs.Common.{rules, arith}
use Rattle.std.proofs.lemmas.Grind.{common_steps}
use Rattle.yaml_text.specs.Lines.{kept}
use Rattle.yaml_text.proofs.line.judge.Goals as goal

pub returns-in_ok-push : goal.returns-in_ok-push
unfolding kept
returns-in_ok-push c = first_of (search rules, grind (arith, common_steps))

pub returns-else-not-is_empty : goal.returns-else-not-is_empty
unfolding kept
returns-else-not-is_empty c = first_of (search rules, grind (arith, common_steps))
