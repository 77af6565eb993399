use Rattle.std.proofs.Common.{◌∙◌, ap₂}
use Rattle.std.proofs.lemmas.Result.{IfOk-weaker}
use Rattle.clap.specs.Simple.{with_rule}
use Rattle.command_line.proofs.command.command.Goals as goal

pub returns : goal.returns
returns c =
    let one = c.in_ok-arg.ensures.shape c.number_option.ensures.local ∙ ap₂ with_rule c.in_ok-with_save.ensures c.number_option.ensures.rule in
    let two = c.in_ok-arg-2.ensures.shape c.number_option-2.ensures.local ∙ ap₂ with_rule one c.number_option-2.ensures.rule in
    IfOk-weaker c.arg-3.result _ _ (λ made added. added.shape c.words.ensures.local ∙ ap₂ with_rule two c.words.ensures.rule) c.arg-3.ensures
