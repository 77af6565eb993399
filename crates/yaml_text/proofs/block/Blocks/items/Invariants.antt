use Rattle.std.proofs.Common.{length, ◌-◌, ◌+◌, ◌≡◌, ◌≤◌, [], ◌∷◌, drop}
use Rattle.yaml_text.specs.Blocks.{items, block}
use Rattle.yaml_text.proofs.block.Blocks.items.Given as goal

abbrev pub invariant-loop-line : goal.invariant-loop-line
invariant-loop-line g l =
    (items (block l.self.depth) l.indent 0 [] (l.fn.first ∷ l.fn.rest) ≡ items (block l.self.depth) l.indent 0 l.found (l.line ∷ drop l.at l.rest))
    × (l.at ≤ length l.rest)

abbrev pub decreases-loop-line : goal.decreases-loop-line
decreases-loop-line g l = length l.rest + 1 - l.at
