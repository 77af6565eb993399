use Rattle.std.proofs.Common.{◌≡◌, ◌≤◌, ◌+◌, length}
use Rattle.yaml_text.specs.Lines.{lines, lines_from, cut}
use Rattle.yaml_text.proofs.line.lines.Given as goal

abbrev pub invariant-loop-rest : goal.invariant-loop-rest
invariant-loop-rest l =
    (lines l.bytes ≡ lines_from (l.number + 1) l.found (cut l.rest)) × (l.number + length l.rest ≤ length l.bytes)

abbrev pub decreases-loop-rest : goal.decreases-loop-rest
decreases-loop-rest l = length l.rest
