use Rattle.std.proofs.Common.{rules, arith}
use Rattle.yaml_text.proofs.Cutting.{comment_here, comment_later, comment_none}
use Rattle.yaml_text.proofs.line.comment_at.Goals as goal

pub returns-then-begins_comment-clause-value : goal.returns-then-begins_comment-clause-value
returns-then-begins_comment-clause-value c =
    comment_here c.loop-at.quoted c.loop-at.fresh c.args.raw.now _ c.loop-at.at c.loop-at-test.true (search rules) c.loop-at.invariant.0

pub loop-at-preserved : goal.loop-at-preserved
loop-at-preserved c =
    (rw c.quoted_after-quoted.ensures (comment_later c.loop-at.quoted c.loop-at.fresh c.args.raw.now _ c.loop-at.at c.loop-at-test.true (search rules) c.loop-at.invariant.0), omega arith)

pub returns-clause-value : goal.returns-clause-value
returns-clause-value c =
    comment_none c.loop-at.quoted c.loop-at.fresh c.args.raw.now _ c.loop-at.at (omega arith) c.loop-at.invariant.0
