use Rattle.std.proofs.Common.{◌≡◌, ◌<◌, ◌^◌, drop}
use Rattle.std.specs.Prelude.{fold}
use Rattle.text_tokens.specs.Tokens.{with_digit, number_of}
use Rattle.text_tokens.proofs.numbers.number_value.Given as goal

abbrev pub invariant-loop-digit : goal.invariant-loop-digit
invariant-loop-digit l = record {
  fits : l.value < 2 ^ 128;
  rest : fold with_digit l.value (drop l.digit-index l.digits) ≡ number_of l.digits;
}
