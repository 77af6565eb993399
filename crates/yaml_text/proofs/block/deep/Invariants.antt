use Rattle.std.proofs.Common.{length, ◌-◌, ◌≡◌, ◌≤◌, ◌+◌, drop}
use Rattle.yaml_text.specs.Blocks.{deep}
use Rattle.yaml_text.proofs.block.deep.Given as goal

abbrev pub invariant-loop-at : goal.invariant-loop-at
invariant-loop-at l = (l.at + deep l.indent (drop l.at l.lines) ≡ deep l.indent l.lines) × (l.at ≤ length l.lines)

abbrev pub decreases-loop-at : goal.decreases-loop-at
decreases-loop-at l = length l.lines - l.at
