use Rattle.std.proofs.Common.{length, ◌-◌, ◌+◌, ◌≡◌, ◌≤◌, [], ◌∷◌, drop}
use Rattle.yaml_text.specs.Blocks.{pairs, block}
use Rattle.yaml_text.proofs.block.Blocks.pairs.Given as goal

abbrev pub invariant-loop-line : goal.invariant-loop-line
invariant-loop-line g l =
    (pairs (block l.self.depth) l.self.depth l.indent 0 [] [] (l.fn.first ∷ l.fn.rest) ≡ pairs (block l.self.depth) l.self.depth l.indent 0 l.keys l.found (l.line ∷ drop l.at l.rest))
    × (l.at ≤ length l.rest)

abbrev pub decreases-loop-line : goal.decreases-loop-line
decreases-loop-line g l = length l.rest + 1 - l.at
