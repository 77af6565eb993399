use Rattle.std.proofs.Common.{◌∙◌, arith}
use Rattle.text_tokens.proofs.TokenLemmas.{space_at}
use Rattle.text_tokens.proofs.tokens.skip_spaces.Goals as goal

pub loop-at-preserved : goal.loop-at-preserved
loop-at-preserved c = record {
  forward = omega arith;
  within = omega arith;
  skipped = c.loop-at.invariant.skipped ∙ space_at _ _ (omega arith) (omega arith);
}
