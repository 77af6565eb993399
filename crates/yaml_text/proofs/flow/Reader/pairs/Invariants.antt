use Rattle.std.proofs.Common.{◌≡◌, ◌-◌, [], length}
use Rattle.yaml_text.specs.Flow.{pairs_from, value}
use Rattle.yaml_text.proofs.flow.Reader.pairs.Given as goal

abbrev pub invariant-loop-turn : goal.invariant-loop-turn
invariant-loop-turn g l =
    pairs_from l.self.line (value l.self.line l.self.depth) (length l.fn.pieces) [] [] l.fn.pieces
    ≡ pairs_from l.self.line (value l.self.line l.self.depth) (l._turn-end - l._turn) l.keys l.found l.pieces
