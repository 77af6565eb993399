use Rattle.std.proofs.Common.{◌≡◌, ◌-◌, reverse}
use Rattle.yaml_text.specs.Flow.{is_flow, fits}
use Rattle.yaml_text.proofs.flow.is_flow.Given as goal

abbrev pub invariant-loop-turn : goal.invariant-loop-turn
invariant-loop-turn l = is_flow l.text ≡ fits (l._turn-end - l._turn) (reverse l.goals) l.pieces
