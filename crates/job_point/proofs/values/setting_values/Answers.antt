use Rattle.std.proofs.Common.{◌<◌, arith, []}
use Rattle.std.proofs.lemmas.Grind.{common_steps}
use Rattle.std.proofs.lemmas.List.Elements.{All-push}
use Rattle.job_point.specs.Values.{IsSettingAt, AreSettingsAt}
use Rattle.job_point.proofs.StepLemmas.{refused, spoilt_at, gone_on_at, all_found}
use Rattle.job_point.proofs.values.setting_values.Goals as goal

pub returns-in_err-value-clause-values : goal.returns-in_err-value-clause-values
returns-in_err-value-clause-values c =
    refused (AreSettingsAt c.args.modulus.now c.args.settings.now) _ _ c.from_residual.ensures.1
    (spoilt_at (λ found setting. IsSettingAt c.args.modulus.now setting) [] c.args.settings.now c.loop-setting.values c.loop-setting.setting-index _ _ c.loop-setting.invariant.step (omega arith) c.in_err-value.ensures.value)

pub loop-setting-preserved : goal.loop-setting-preserved
loop-setting-preserved c = record {
  step = rw c.in_ok-push.ensures.ok
      (gone_on_at (λ found setting. IsSettingAt c.args.modulus.now setting) [] c.args.settings.now c.loop-setting.values c.loop-setting.setting-index _ c.in_ok-value.value c.loop-setting.invariant.step (omega arith) c.in_ok-value.ensures.value);
  counted = rw c.in_ok-push.ensures.ok (grind (arith, common_steps));
  below = rw c.in_ok-push.ensures.ok (All-push (λ v. v < c.args.modulus.now) c.loop-setting.values c.in_ok-value.value c.loop-setting.invariant.below c.in_ok-value.ensures.below);
}

pub returns-clause-values : goal.returns-clause-values
returns-clause-values c = all_found (λ found setting. IsSettingAt c.args.modulus.now setting) [] c.args.settings.now c.loop-setting.values c.loop-setting.setting-index c.loop-setting.invariant.step (omega arith)
