use Rattle.std.proofs.Common.{◌∙◌, ap₂}
use Rattle.std.proofs.lemmas.Result.{IfOk-weaker}
use Rattle.clap.specs.Simple.{with_rule}
use Rattle.command_line.proofs.command.with_save.Goals as goal

pub returns : goal.returns
returns c =
    let one = c.in_ok-arg.ensures.shape c.parallel.ensures.local ∙ ap₂ with_rule c.bare.ensures c.parallel.ensures.rule in
    let two = c.in_ok-arg-2.ensures.shape c.save.ensures.local ∙ ap₂ with_rule one c.save.ensures.rule in
    IfOk-weaker c.arg-3.result _ _ (λ made added. added.shape c.number_option.ensures.local ∙ ap₂ with_rule two c.number_option.ensures.rule) c.arg-3.ensures
