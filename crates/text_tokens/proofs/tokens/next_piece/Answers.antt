use Rattle.std.proofs.Common.{◌∙◌, arith}
use Rattle.text_tokens.proofs.TokenLemmas.{mark_piece, end_of_text}
use Rattle.text_tokens.proofs.tokens.next_piece.Goals as goal

pub returns-then-at-bytes : goal.returns-then-at-bytes
returns-then-at-bytes c = c.skip_spaces-at.ensures.skipped ∙ end_of_text _ _ (omega arith)

pub returns-in_default : goal.returns-in_default
returns-in_default c = (
  omega arith,
  omega arith,
  omega arith,
  c.skip_spaces-at.ensures.skipped
      ∙ mark_piece _ _ _ (omega arith) (c.skip_spaces-at.ensures.no_space (omega arith)) c.kind_of-kind.ensures c.in_default.not-Number c.in_default.not-Name,
)
