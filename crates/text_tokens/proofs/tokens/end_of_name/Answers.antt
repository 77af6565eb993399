use Rattle.std.proofs.Common.{◌∙◌, arith}
use Rattle.text_tokens.proofs.TokenLemmas.{name_at, name_more_at, name_stops_at}
use Rattle.text_tokens.proofs.tokens.end_of_name.Goals as goal

pub loop-end-init : goal.loop-end-init
loop-end-init c = record {
  forward = omega arith;
  inside = omega arith;
  run = name_at _ _ (omega arith) c.requires.begins;
}

pub loop-end-preserved : goal.loop-end-preserved
loop-end-preserved c = record {
  forward = omega arith;
  inside = omega arith;
  run = c.loop-end.invariant.run ∙ name_more_at _ _ _ (omega arith) (omega arith) (cc);
}

pub returns-else-is_name_byte-clause-run : goal.returns-else-is_name_byte-clause-run
returns-else-is_name_byte-clause-run c = c.loop-end.invariant.run ∙ name_stops_at _ _ _ _ (λ h. cc)

pub returns-after-loop-end-clause-run : goal.returns-after-loop-end-clause-run
returns-after-loop-end-clause-run c = c.loop-end.invariant.run ∙ name_stops_at _ _ _ _ (λ h. absurd (omega arith))
