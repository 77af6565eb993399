use Rattle.std.proofs.Common.{◌≡◌, map, take}
use Rattle.kinematics.proofs.rule_rows.rule_values.Given as goal

abbrev pub invariant-loop-rule : goal.invariant-loop-rule
invariant-loop-rule l = l.values.items ≡ map (λ rule. rule.value) (take l.rule-index l.rules)
