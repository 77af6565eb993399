use Rattle.std.proofs.Common.{◌≡◌, sym, ◌∙◌, arith}
use Rattle.std.specs.Prelude.{fold}
use Rattle.std.proofs.lemmas.List.{at_drop_all}
use Rattle.text_tokens.specs.Tokens.{with_digit, number_of}
use Rattle.text_tokens.proofs.NumberLemmas.{too_wide}
use Rattle.text_tokens.proofs.numbers.number_value.Goals as goal

pub returns-in-None : goal.returns-in-None
returns-in-None c =
    too_wide c.loop-digit.value _ c.loop-digit.digit-index c.args.digits.now (omega arith) c.loop-digit.invariant.rest c.in-None.ensures

pub returns : goal.returns
returns c =
    let same : c.loop-digit.value ≡ number_of c.args.digits.now =
    sym (at_drop_all (fold with_digit c.loop-digit.value) c.args.digits.now c.loop-digit.digit-index (omega arith)) ∙ c.loop-digit.invariant.rest in
    (omega arith, same)
