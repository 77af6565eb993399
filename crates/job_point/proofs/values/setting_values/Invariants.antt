use Rattle.std.proofs.Common.{◌≡◌, ◌<◌, [], length, All}
use Rattle.job_point.specs.Values.{IsSettingAt}
use Rattle.job_point.proofs.StepLemmas.{GoesOn}
use Rattle.job_point.proofs.values.setting_values.Given as goal

abbrev pub invariant-loop-setting : goal.invariant-loop-setting
invariant-loop-setting l = record {
  step : GoesOn (λ found setting. IsSettingAt l.modulus setting) [] l.settings l.values l.setting-index;
  counted : length l.values ≡ l.setting-index;
  below : All (λ v. v < l.modulus) l.values;
}
