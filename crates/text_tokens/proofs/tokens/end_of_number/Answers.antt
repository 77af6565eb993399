use Rattle.std.proofs.Common.{◌∙◌, arith}
use Rattle.text_tokens.proofs.TokenLemmas.{number_at, number_more_at, number_stops_at}
use Rattle.text_tokens.proofs.tokens.end_of_number.Goals as goal

pub loop-end-init : goal.loop-end-init
loop-end-init c = record {
  forward = omega arith;
  inside = omega arith;
  run = number_at _ _ (omega arith) c.requires.begins;
}

pub loop-end-preserved : goal.loop-end-preserved
loop-end-preserved c = record {
  forward = omega arith;
  inside = omega arith;
  run = c.loop-end.invariant.run ∙ number_more_at _ _ _ (omega arith) (omega arith) (cc);
}

pub returns-else-is_digit-clause-run : goal.returns-else-is_digit-clause-run
returns-else-is_digit-clause-run c = c.loop-end.invariant.run ∙ number_stops_at _ _ _ _ (λ h. cc)

pub returns-after-loop-end-clause-run : goal.returns-after-loop-end-clause-run
returns-after-loop-end-clause-run c = c.loop-end.invariant.run ∙ number_stops_at _ _ _ _ (λ h. absurd (omega arith))
