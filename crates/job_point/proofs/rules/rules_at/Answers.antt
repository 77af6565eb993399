use Rattle.std.proofs.Common.{arith, []}
use Rattle.std.proofs.lemmas.List.Elements.{All-push}
use Rattle.kinematics.specs.Rules.{IsRule}
use Rattle.job_point.specs.Point.{IsRuleAt, AreRulesAt}
use Rattle.job_point.proofs.RuleLemmas.{rule_is}
use Rattle.job_point.proofs.StepLemmas.{refused, spoilt, gone_on, all_found}
use Rattle.job_point.proofs.rules.rules_at.Goals as goal

pub returns-in_err-next-clause-rules : goal.returns-in_err-next-clause-rules
returns-in_err-next-clause-rules c =
    refused (AreRulesAt c.args.modulus.now c.args.residues.now c.args.rules.now) _ _ c.from_residual.ensures.1
    (spoilt (λ found rule. IsRuleAt c.args.modulus.now c.args.residues.now rule) [] c.args.rules.now c.loop-rule.found c.loop-rule.rule-index c.rule-item.result _ c.loop-rule.invariant.step (omega arith) c.rule-item.is c.in_err-next.ensures.rule)

pub loop-rule-preserved : goal.loop-rule-preserved
loop-rule-preserved c = record {
  step = rw c.in_ok-push.ensures.ok
      (gone_on (λ found rule. IsRuleAt c.args.modulus.now c.args.residues.now rule) [] c.args.rules.now c.loop-rule.found c.loop-rule.rule-index c.rule-item.result c.in_ok-next.next c.loop-rule.invariant.step (omega arith) c.rule-item.is c.in_ok-next.ensures.rule);
  each = rw c.in_ok-push.ensures.ok (All-push (IsRule c.args.modulus.now c.args.externals) c.loop-rule.found c.in_ok-next.next c.loop-rule.invariant.each
      (rule_is c.args.modulus.now c.args.externals c.args.rules.now c.loop-rule.rule-index c.rule-item.result c.in_ok-next.next c.requires.momenta (omega arith) c.rule-item.is c.in_ok-next.ensures.left c.in_ok-next.ensures.right c.in_ok-next.ensures.below));
}

pub returns-clause-rules : goal.returns-clause-rules
returns-clause-rules c = all_found (λ found rule. IsRuleAt c.args.modulus.now c.args.residues.now rule) [] c.args.rules.now c.loop-rule.found c.loop-rule.rule-index c.loop-rule.invariant.step (omega arith)
