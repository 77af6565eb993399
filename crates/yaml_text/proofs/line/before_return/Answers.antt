use Rattle.std.proofs.Common.{rules, arith}
use Rattle.std.proofs.lemmas.Grind.{common_steps}
use Rattle.yaml_text.proofs.Cutting.{return_there, return_missing}
use Rattle.yaml_text.proofs.line.before_return.Goals as goal

pub returns-then-bytes-end-eq-CR-clause-value : goal.returns-then-bytes-end-eq-CR-clause-value
returns-then-bytes-end-eq-CR-clause-value c = first_of (search (rules, return_there), grind (arith, common_steps, return_there))

pub returns-else-end-gt0-clause-value : goal.returns-else-end-gt0-clause-value
returns-else-end-gt0-clause-value c = first_of (search (rules, return_missing), grind (arith, common_steps, return_missing))
