use Rattle.std.proofs.Common.{[], All}
use Rattle.kinematics.specs.Rules.{IsRule}
use Rattle.job_point.specs.Point.{IsRuleAt}
use Rattle.job_point.proofs.StepLemmas.{GoesOn}
use Rattle.job_point.proofs.rules.rules_at.Given as goal

abbrev pub invariant-loop-rule : goal.invariant-loop-rule
invariant-loop-rule l = record {
  step : GoesOn (λ found rule. IsRuleAt l.modulus l.residues rule) [] l.rules l.found l.rule-index;
  each : All (IsRule l.modulus l.externals) l.found;
}
