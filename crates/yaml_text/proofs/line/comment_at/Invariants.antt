use Rattle.std.proofs.Common.{length, ◌-◌, ◌≡◌, ◌≤◌, ◌++◌, take, drop, false, true}
use Rattle.yaml_text.specs.Lines.{before_comment}
use Rattle.yaml_text.proofs.line.comment_at.Given as goal

abbrev pub invariant-loop-at : goal.invariant-loop-at
invariant-loop-at l =
    (take l.at l.raw ++ before_comment l.quoted l.fresh (drop l.at l.raw) ≡ before_comment false true l.raw) × (l.at ≤ length l.raw)

abbrev pub decreases-loop-at : goal.decreases-loop-at
decreases-loop-at l = length l.raw - l.at
